-- What is made of what is held of units is what their files say.
use Rattle.std.proofs.Common.{◌≡◌, ℕ, zero, suc, ◌+◌, List, [], ◌∷◌, ◌++◌, map, length, refl, ap, sym, ◌∙◌, arith}
use Rattle.std.specs.Prelude.{slice_get, Some}
use Rattle.std.proofs.lemmas.Option.{none-some, same_Some}
use Rattle.regtype_grammar.specs.TypeNames.{first_names, numbered as kinds_of}
use Rattle.unit_scopes.specs.Sayings.{File}
use Rattle.unit_scopes.specs.Numbering.{indicators, first_pred, numbered}
use Rattle.unit_scopes.specs.Imports.{type_indicator, type_of, type_module, type_modules_from, type_modules}
use Rattle.unit_scopes.specs.Settings.{setting_of, settings_from, settings}
use Rattle.unit_scopes.specs.Sources.{IsSource, AreSources}
use Rattle.unit_scopes.specs.Held.{type_held, module_held, setting_held}
use Rattle.unit_scopes.specs.declared.sayings.Declared.{Declared}
use Rattle.unit_scopes.specs.declared.sources.Source.{Source}
use Rattle.unit_scopes.proofs.SourceLaws.{preds_given_are, types_given_are}
use Rattle.unit_scopes.proofs.PlaceLaws.{StandsFrom, stands_all, clauses_same}

-- types

type_same : {at first : ℕ} (f : File) (s : Source) → IsSource at first f s → (d : Declared) → type_held s d ≡ type_of f d
type_same f s h d = λ i. record { name = d.name; clauses = clauses_same f s h (type_indicator d.name) i; place = record { file = h.file i; line = d.line } }

module _ (files : List File) (sources : List Source) (all : AreSources 0 0 files sources) where
  module_same : {at first : ℕ} (f : File) (s : Source) → IsSource at first f s → module_held sources s ≡ type_module files at f
  module_same f s h =
      let given = types_given_are f s h 0 0 files sources all in
      λ i. record { file = h.file i; types = map (λ d. type_same f s h d i) (h.parts i).types; visible = h.types i ++ given i }

  pub modules_same : (at first : ℕ) (fs : List File) (ss : List Source) → AreSources at first fs ss → map (module_held sources) ss ≡ type_modules_from files at fs
  modules_same at first [] ss are = ap (map (module_held sources)) are
  modules_same at first (f ∷ fs) [] are = absurd are
  modules_same at first (f ∷ fs) (s ∷ ss) are =
      let rest = modules_same (suc at) (length (indicators f) + first) fs ss are.1 in
      λ i. module_same f s are.0 i ∷ rest i

-- the types of all units
pub modules_are : (files : List File) (sources : List Source) → AreSources 0 0 files sources → map (module_held sources) sources ≡ type_modules files
modules_are files sources all = modules_same files sources all 0 0 files sources all

-- scopes

-- the number behind the predicates of a file is the first one of the next file
pub first_next : (files : List File) (at : ℕ) (f : File) → slice_get files at ≡ Some f → length (indicators f) + first_pred files at ≡ first_pred files (suc at)
first_next [] at f e = absurd (none-some f e)
first_next (g ∷ gs) zero f e = ap (λ x. length (indicators x) + 0) (sym (same_Some g f e)) ∙ ap (λ n. length (indicators g) + n) (first gs)
  where
    first : (fs : List File) → 0 ≡ first_pred fs zero
    first [] = refl
    first (x ∷ xs) = refl
first_next (g ∷ gs) (suc at) f e = let rest = first_next gs at f e in omega (arith, rest)

module _ (files : List File) (sources : List Source) (all : AreSources 0 0 files sources) (firsts : List ℕ) (are : firsts ≡ first_names (type_modules files)) where
  setting_same : (at first : ℕ) (f : File) (s : Source) → first ≡ first_pred files at → IsSource at first f s → setting_held firsts sources s ≡ setting_of files at f
  setting_same at first f s number h =
      let preds = preds_given_are f s.index h.index 0 0 files sources all in
      let types = types_given_are f s h 0 0 files sources all in
      let own = h.preds ∙ ap (λ n. numbered n (indicators f)) number in
      λ i. record { file = h.file i; «module» = h.«module» i; scope = record { preds = own i ++ preds i; types = kinds_of (are i) (h.types i ++ types i) } }

  settings_same : (at first : ℕ) (fs : List File) (ss : List Source) → first ≡ first_pred files at → StandsFrom files at fs → AreSources at first fs ss
      → map (setting_held firsts sources) ss ≡ settings_from files at fs
  settings_same at first [] ss number stands held = ap (map (setting_held firsts sources)) held
  settings_same at first (f ∷ fs) [] number stands held = absurd held
  settings_same at first (f ∷ fs) (s ∷ ss) number stands held =
      let next = ap (λ n. length (indicators f) + n) number ∙ first_next files at f stands.0 in
      let rest = settings_same (suc at) (length (indicators f) + first) fs ss next stands.1 held.1 in
      λ i. setting_same at first f s number held.0 i ∷ rest i

  -- what the predicates of all units have in common
  pub settings_are : map (setting_held firsts sources) sources ≡ settings files
  settings_are = settings_same 0 0 files sources (first files) (stands_all files) all
    where
      first : (fs : List File) → 0 ≡ first_pred fs 0
      first [] = refl
      first (x ∷ xs) = refl
