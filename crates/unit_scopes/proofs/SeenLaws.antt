-- Each type that is seen in a file is a type of a file, at its place, and has its name.
use Rattle.std.proofs.Common.{◌≡◌, ℕ, zero, suc, Bool, true, false, ◌&&◌, ◌==◌, List, [], ◌∷◌, ◌++◌, map, cond, refl, ap, ◌∙◌, arith}
use Rattle.std.specs.Prelude.{filter, slice_get, Some, nat_eq}
use Rattle.std.specs.List.{list_any, list_all}
use Rattle.std.proofs.lemmas.Bool.{and_parts, and_from}
use Rattle.std.proofs.lemmas.Bool.Decides.{nat_tests}
use Rattle.term_core.specs.Terms.{with_new}
use Rattle.regtype_grammar.specs.TypeNames.{has_type_name, is_within, is_seen_in, are_seen}
use Rattle.regtype_grammar.specs.declared.modules.TypeModule.{TypeModule}
use Rattle.unit_scopes.specs.Sayings.{File}
use Rattle.unit_scopes.specs.Imports.{first_declared, types_behind, own_types, imported_types, gets, declares, type_indicator, type_of, type_module, type_modules_from, type_modules}
use Rattle.unit_scopes.specs.declared.sayings.Declared.{Declared}
use Rattle.unit_scopes.proofs.PlaceLaws.{StandsFrom, stands_all}

-- tests of lists

all_joined : {A : Type 0} (test : A → Bool) (xs ys : List A) → list_all test xs ≡ true → list_all test ys ≡ true → list_all test (xs ++ ys) ≡ true
all_joined test [] ys front back = back
all_joined test (x ∷ xs) ys front back =
    let both = and_parts (test x) (list_all test xs) front in
    and_from (test x) (list_all test (xs ++ ys)) both.0 (all_joined test xs ys both.1 back)

all_kept : {A : Type 0} (test keep : A → Bool) (xs : List A) → list_all test xs ≡ true → list_all test (filter keep xs) ≡ true
all_kept test keep [] pass = refl
all_kept test keep (x ∷ xs) pass = let both = and_parts (test x) (list_all test xs) pass in by (keep x) both.0 (all_kept test keep xs both.1)
  where
    by : (b : Bool) → test x ≡ true → list_all test (filter keep xs) ≡ true → list_all test (cond b (x ∷ filter keep xs) (filter keep xs)) ≡ true
    by true here rest = and_from (test x) (list_all test (filter keep xs)) here rest
    by false here rest = rest

-- own types

same_name : (n : ℕ) → (n == n) ≡ true
same_name n = grind (arith, nat_tests)

module _ (modules : List TypeModule) (at : ℕ) (one : TypeModule) (there : slice_get modules at ≡ Some one) where
  pub own_seen : (f : File) (position : ℕ) (before : List ℕ) (ds : List Declared) → StandsFrom one.types position (map (type_of f) ds) → list_all (is_seen_in modules) (types_behind at position before ds) ≡ true
  own_seen f position before [] stands = refl
  own_seen f position before (d ∷ ds) stands =
      all_joined (is_seen_in modules) (first_declared at position before d.name) (types_behind at (suc position) (with_new before d.name) ds)
      (by (list_any (nat_eq d.name) before)) (own_seen f (suc position) (with_new before d.name) ds stands.1)
    where
      seen : is_seen_in modules (record { name = d.name; «module» = at; position = position }) ≡ true
      seen = ap (is_within d.name position) there ∙ ap (has_type_name d.name) stands.0 ∙ same_name d.name

      by : (b : Bool) → list_all (is_seen_in modules) (cond b [] (record { name = d.name; «module» = at; position = position } ∷ [])) ≡ true
      by true = refl
      by false = and_from (is_seen_in modules (record { name = d.name; «module» = at; position = position })) true seen refl

-- the types of the file at a place are types of its module
file_seen : (files : List File) (modules : List TypeModule) (at : ℕ) (f : File) → slice_get modules at ≡ Some (type_module files at f) → list_all (is_seen_in modules) (own_types at f) ≡ true
file_seen files modules at f there = own_seen modules at (type_module files at f) there f 0 [] f.parts.types (stands_all (map (type_of f) f.parts.types))

-- imported types
imported_seen : (files : List File) (modules : List TypeModule) (f : File) (at : ℕ) (gs : List File) → StandsFrom modules at (type_modules_from files at gs) → list_all (is_seen_in modules) (imported_types f at gs) ≡ true
imported_seen files modules f at [] stands = refl
imported_seen files modules f at (g ∷ gs) stands =
    all_joined (is_seen_in modules) _ (imported_types f (suc at) gs)
    (all_kept (is_seen_in modules) _ (own_types at g) (file_seen files modules at g stands.0))
    (imported_seen files modules f (suc at) gs stands.1)

-- all that are seen
modules_seen : (files : List File) (modules : List TypeModule) → StandsFrom modules 0 (type_modules files) → (at : ℕ) (fs : List File) → StandsFrom modules at (type_modules_from files at fs)
    → list_all (λ m. list_all (is_seen_in modules) m.visible) (type_modules_from files at fs) ≡ true
modules_seen files modules all at [] stands = refl
modules_seen files modules all at (f ∷ fs) stands =
    and_from (list_all (is_seen_in modules) (own_types at f ++ imported_types f 0 files)) _
    (all_joined (is_seen_in modules) (own_types at f) (imported_types f 0 files) (file_seen files modules at f stands.0) (imported_seen files modules f 0 files all))
    (modules_seen files modules all (suc at) fs stands.1)

pub types_are_seen : (files : List File) → are_seen (type_modules files) ≡ true
types_are_seen files = let all = stands_all (type_modules files) in modules_seen files (type_modules files) all 0 files all
