-- Distinct modules have distinct paths, which stay when names are added.
use Rattle.std.proofs.Common.{◌≡◌, ◌<◌, ℕ, zero, suc, true, false, List, [], ◌∷◌, ◌++◌, map, length, take, drop, Some, refl, sym, ap, ◌∙◌, subst, true≢false, codes, arith}
use Rattle.std.specs.Prelude.{◌==◌, slice_get, bytes_eq}
use Rattle.std.specs.List.{AllByRecursion, IsDistinct}
use Rattle.std.proofs.lemmas.List.{append_cancel_left, append_cancel_right, append-nil, take-append-drop}
use Rattle.std.proofs.lemmas.Grind.{flat_map-append}
use Rattle.std.proofs.lemmas.Option.{none-some, same_Some}
use Rattle.std.proofs.lemmas.Bool.{false_from_ne_true}
use Rattle.std.proofs.lemmas.Bool.Decides.{nat_tests}
use Rattle.std.proofs.lemmas.Slice.Eq.{bytes_eq-Decides}
use Rattle.term_core.specs.Names.{name_text}
use Rattle.term_core.specs.Lists.{IsPrefix}
use Rattle.ciao_modules.specs.FileNames.{Word, file_of}
use Rattle.ciao_modules.specs.Queue.{same_module}
use Rattle.ciao_modules.specs.LoadReads.{path_of, paths_of}
use Rattle.ciao_modules.specs.Stages.{IsModuleInRange, IsMemberInRange}
use Rattle.ciao_modules.proofs.Lists.{all_at, all_append, prefix_get, distinct_front}
use Rattle.ciao_modules.specs.declared.queue.Module.{Module}
use Rattle.ciao_modules.specs.declared.queue.Module.TheVariants as module_of
use Rattle.ciao_modules.specs.declared.queue.Member.{Member}

-- texts by number

text_there : (names : List Word) (i : ℕ) → i < length names → slice_get names i ≡ Some (name_text names i)
text_there [] i lt = absurd (omega (arith, lt))
text_there (t ∷ names) zero lt = refl
text_there (t ∷ names) (suc i) lt = text_there names i (omega (arith, lt))

pub text_got : (names : List Word) (i : ℕ) (t : Word) → slice_get names i ≡ Some t → name_text names i ≡ t
text_got [] i t is = absurd (none-some t is)
text_got (u ∷ names) zero t is = same_Some u t is
text_got (u ∷ names) (suc i) t is = text_got names i t is

pub text_kept : (names after : List Word) (i : ℕ) → IsPrefix names after → i < length names → name_text names i ≡ name_text after i
text_kept names after i front lt = sym (text_got after i (name_text names i) (prefix_get names after i (name_text names i) front (text_there names i lt)))

-- a text stands at one place
one_place : (names : List Word) (i j : ℕ) (t : Word) → IsDistinct bytes_eq names → slice_get names i ≡ Some t → slice_get names j ≡ Some t → i ≡ j
unfolding IsDistinct
one_place [] i j t once at_i at_j = absurd (none-some t at_i)
one_place (u ∷ names) zero zero t once at_i at_j = refl
one_place (u ∷ names) zero (suc j) t once at_i at_j = absurd (true≢false (sym ((bytes_eq-Decides u t).1 (same_Some u t at_i)) ∙ all_at (λ v. bytes_eq u v ≡ false) names j t once.0 at_j))
one_place (u ∷ names) (suc i) zero t once at_i at_j = absurd (true≢false (sym ((bytes_eq-Decides u t).1 (same_Some u t at_j)) ∙ all_at (λ v. bytes_eq u v ≡ false) names i t once.0 at_i))
one_place (u ∷ names) (suc i) (suc j) t once at_i at_j = ap (λ k. suc k) (one_place names i j t once.1 at_i at_j)

itself : (a : ℕ) → (a == a) ≡ true
itself a = grind (arith, nat_tests)

module _ (folder : Word) (names : List Word) where
  -- paths

  pub paths_more : (members : List Member) (m : Member) → paths_of folder names (members ++ m ∷ []) ≡ paths_of folder names members ++ path_of folder names m.used
  paths_more members m =
      flat_map-append (λ m. path_of folder names m.used) members (m ∷ [])
      ∙ ap (λ ps. paths_of folder names members ++ ps) (append-nil (path_of folder names m.used))

  path_kept : (after : List Word) (used : Module) → IsPrefix names after → IsModuleInRange (length names) used → path_of folder names used ≡ path_of folder after used
  path_kept after (module_of.File name) front w = ap (λ t. (folder ++ file_of t) ∷ []) (text_kept names after name front w)
  path_kept after (module_of.Library library) front w = refl

  pub paths_kept : (after : List Word) (members : List Member) → IsPrefix names after → AllByRecursion (IsMemberInRange (length names)) members → paths_of folder names members ≡ paths_of folder after members
  paths_kept after [] front w = refl
  paths_kept after (m ∷ members) front w =
      ap (λ p. p ++ paths_of folder names members) (path_kept after m.used front w.0.used)
      ∙ ap (λ ps. path_of folder after m.used ++ ps) (paths_kept after members front w.1)

  module _ (once : IsDistinct bytes_eq names) where
    one_name : (a b : ℕ) → a < length names → b < length names → folder ++ file_of (name_text names a) ≡ folder ++ file_of (name_text names b) → a ≡ b
    one_name a b la lb e =
        let same = append_cancel_right (name_text names a) (name_text names b) (codes ".pl") (append_cancel_left folder _ _ e) in
        one_place names a b (name_text names a) once (text_there names a la) (text_there names b lb ∙ ap Some (sym same))

    differ : (a b : ℕ) → a < length names → b < length names → (a == b) ≡ false → bytes_eq (folder ++ file_of (name_text names a)) (folder ++ file_of (name_text names b)) ≡ false
    differ a b la lb e =
        false_from_ne_true _ (λ same. true≢false (sym (itself a) ∙ ap (λ c. a == c) (one_name a b la lb ((bytes_eq-Decides _ _).0 same)) ∙ e))

    -- a file's path differs from those of other modules
    new_path : (a : ℕ) → a < length names → (members : List Member) → AllByRecursion (IsMemberInRange (length names)) members
        → AllByRecursion (λ used. same_module (module_of.File a) used ≡ false) (map (λ m. m.used) members)
        → AllByRecursion (λ p. bytes_eq (folder ++ file_of (name_text names a)) p ≡ false) (paths_of folder names members)
    new_path a la [] w other = tt
    new_path a la (m ∷ members) w other =
        all_append (λ p. bytes_eq (folder ++ file_of (name_text names a)) p ≡ false) (path_of folder names m.used) (paths_of folder names members)
        (by m.used w.0.used other.0) (new_path a la members w.1 other.1)
      where
        by : (used : Module) → IsModuleInRange (length names) used → same_module (module_of.File a) used ≡ false
            → AllByRecursion (λ p. bytes_eq (folder ++ file_of (name_text names a)) p ≡ false) (path_of folder names used)
        by (module_of.File b) lb e = (differ a b la lb e, tt)
        by (module_of.Library library) lb e = tt

    pub paths_differ : (members : List Member) → AllByRecursion (IsMemberInRange (length names)) members → IsDistinct same_module (map (λ m. m.used) members) → IsDistinct bytes_eq (paths_of folder names members)
    unfolding IsDistinct
    paths_differ [] w d = tt
    paths_differ (m ∷ members) w d = by m.used w.0.used d.0 (paths_differ members w.1 d.1)
      where
        by : (used : Module) → IsModuleInRange (length names) used → AllByRecursion (λ other. same_module used other ≡ false) (map (λ m. m.used) members)
            → IsDistinct bytes_eq (paths_of folder names members) → IsDistinct bytes_eq (path_of folder names used ++ paths_of folder names members)
        by (module_of.File a) la other rest = (new_path a la members w.1 other, rest)
        by (module_of.Library library) la other rest = rest

    -- the first of the paths differ
    pub first_paths_differ : (n : ℕ) (members : List Member) → AllByRecursion (IsMemberInRange (length names)) members → IsDistinct same_module (map (λ m. m.used) members)
        → IsDistinct bytes_eq (paths_of folder names (take n members))
    first_paths_differ n members w d =
        distinct_front bytes_eq (paths_of folder names (take n members)) (paths_of folder names (drop n members))
        (subst (IsDistinct bytes_eq) (ap (paths_of folder names) (sym (take-append-drop n members)) ∙ flat_map-append (λ m. path_of folder names m.used) (take n members) (drop n members))
        (paths_differ members w d))
