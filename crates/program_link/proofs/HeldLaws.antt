-- What is found of units by what is held of them is what their files define.
use Rattle.std.proofs.Common.{◌≡◌, ℕ, zero, suc, ◌+◌, ◌<◌, not, List, [], ◌∷◌, ◌++◌, length, get_or, drop, map, refl, ap, sym, ◌∙◌, subst, arith}
use Rattle.std.specs.Prelude.{⊤, ◌||◌, ◌&&◌, flat_map, slice_get, Option, Some, None}
use Rattle.std.specs.Option.{option_map_or}
use Rattle.term_core.specs.Names.{name_text}
use Rattle.term_core.proofs.Turns.{turn}
use Rattle.term_core.proofs.OperandLaws.{none_part, some_part}
use Rattle.prog_data.specs.declared.refusals.RefusalKind.TheVariants as kind
use Rattle.ciao_modules.specs.FileNames.{Word}
use Rattle.ciao_modules.specs.UnitRanges.{exports_of}
use Rattle.ciao_modules.specs.declared.units.Import.{Import}
use Rattle.ciao_modules.specs.declared.units.Unit.{Unit}
use Rattle.assertion_read.specs.declared.assertions.Assertion.{Assertion}
use Rattle.assertion_normal.specs.Troubles.{trouble_of}
use Rattle.regtype_grammar.specs.TypeFaults.{refused}
use Rattle.regtype_grammar.specs.Grammars.{IsTypeFault}
use Rattle.regtype_grammar.specs.declared.modules.TypeFault.{TypeFault}
use Rattle.regtype_grammar.specs.declared.modules.TypeFault.TheVariants as types
use Rattle.regtype_grammar.specs.declared.modules.TypeModule.{TypeModule}
use Rattle.body_code.specs.declared.faults.Indicator.{Indicator}
use Rattle.unit_scopes.specs.Indicators.{is_among}
use Rattle.unit_scopes.specs.Sayings.{File, file_of}
use Rattle.unit_scopes.specs.Numbering.{indicators, asserted}
use Rattle.unit_scopes.specs.Imports.{exported, exports_all, is_exported, kinds_seen, scope_of, type_modules}
use Rattle.unit_scopes.specs.Settings.{setting_of, settings_from, settings}
use Rattle.unit_scopes.specs.Sources.{index_exports, IsIndex, AreSources}
use Rattle.unit_scopes.specs.declared.sayings.Parts.{Parts}
use Rattle.unit_scopes.specs.declared.settings.Setting.{Setting}
use Rattle.unit_scopes.specs.declared.sources.Source.{Source}
use Rattle.program_link.specs.FaultOrder.{sooner, least_from, least}
use Rattle.program_link.specs.NamedFaults.{fault_where, fault_of, broken_fault, is_everywhere, is_offered, export_faults, import_faults}
use Rattle.program_link.specs.Faults.{trouble_kind, clause_faults, assertion_faults, type_faults, file_faults, faults_from, all_faults}
use Rattle.program_link.specs.Offers.{source_offers, source_import_faults}
use Rattle.program_link.specs.HeldFaults.{held_export_faults, held_assertion_faults, held_faults, held_at, held_from}
use Rattle.program_link.specs.declared.faults.Fault.{Fault}
use Rattle.program_link.proofs.FaultLaws.{least_behind, then_more}

-- what is held of a file, wherever it stands
pub record IsHeld (f : File) (s : Source) : Type 0 where
  pub file : s.file ≡ f.unit.file
  pub parts : s.parts ≡ f.parts
  pub index : IsIndex f s.index

-- the same at a place, or nothing there
abbrev Looks : Option File → Option Source → Type 0
Looks None None = ⊤
Looks (Some f) (Some s) = IsHeld f s
Looks found other = ⊥

looks_at : (at first : ℕ) (fs : List File) (ss : List Source) → AreSources at first fs ss → (i : ℕ) → Looks (slice_get fs i) (slice_get ss i)
looks_at at first [] ss e i = subst (λ xs. Looks None (slice_get xs i)) (sym e) tt
looks_at at first (f ∷ fs) [] h i = absurd h
looks_at at first (f ∷ fs) (s ∷ ss) h zero = record { file = h.0.file; parts = h.0.parts; index = h.0.index }
looks_at at first (f ∷ fs) (s ∷ ss) h (suc i) = looks_at (suc at) _ fs ss h.1 i

-- the setting of the file at a place
pub setting_there : (files : List File) (start : ℕ) (fs : List File) (i : ℕ) (f : File) → slice_get fs i ≡ Some f → (at : ℕ) → at ≡ i + start → slice_get (settings_from files start fs) i ≡ Some (setting_of files at f)
setting_there files start [] i f is at place = absurd (none_part f is)
setting_there files start (g ∷ fs) zero f is at place =
    let same : start ≡ at = omega (arith, place) in
    ap (λ n. Some (setting_of files n g)) same ∙ ap (λ h. Some (setting_of files at h)) (some_part g f is)
setting_there files start (g ∷ fs) (suc i) f is at place = setting_there files (suc start) fs i f is at (omega (arith, place))

-- an index exports what its file does
pub exports_same : (f : File) (s : Source) → IsHeld f s → (p : Indicator) → index_exports s.index p ≡ is_exported f p
exports_same f s h p =
    ap (λ all. (all && is_among p s.index.defined.keys) || is_among p s.index.exported.keys) h.index.all
    ∙ ap (λ ps. (exports_all f.unit.exports && is_among p ps) || is_among p s.index.exported.keys) h.index.defined
    ∙ ap (λ named. (exports_all f.unit.exports && is_among p (indicators f)) || named) (h.index.exported p)

offers_same : (names : List Word) (p : Indicator) (o : Option File) (found : Option Source) → Looks o found → source_offers names p found ≡ is_offered names p o
offers_same names p None None h = refl
offers_same names p None (Some s) h = absurd h
offers_same names p (Some f) None h = absurd h
offers_same names p (Some f) (Some s) h =
    ap (λ exports. exports || is_everywhere (name_text names s.file) p) (exports_same f s h p)
    ∙ ap (λ file. is_exported f p || is_everywhere (name_text names file) p) h.file

-- faults of files by what is held of them

module _ (names : List Word) (files : List File) (sources : List Source) (held : (i : ℕ) → Looks (slice_get files i) (slice_get sources i)) where
  imports_same : (at : ℕ) (i : Import) → source_import_faults names sources at i ≡ import_faults names files at i
  imports_same at i = λ j. flat_map (λ e. fault_where (not (offers_same names (exported e) (slice_get files i.unit) (slice_get sources i.unit) (held i.unit) j)) at i.line kind.NotExported) (option_map_or (λ only. only) i.only [])

  defines_same : (f : File) (s : Source) → IsHeld f s → (p : Indicator) → is_among p s.index.defined.keys ≡ is_among p (indicators f)
  defines_same f s h p = ap (is_among p) h.index.defined

  exports_told : (at : ℕ) (f : File) (s : Source) → IsHeld f s → flat_map (held_export_faults at s.index) (exports_of f.unit.exports) ≡ export_faults at f
  exports_told at f s h = λ j. flat_map (λ e. fault_where (not (defines_same f s h (exported e) j)) at e.line kind.Undefined) (exports_of f.unit.exports)

  assertions_told : (at : ℕ) (f : File) (s : Source) → IsHeld f s
      → flat_map (held_assertion_faults names (kinds_seen files at f) at s.index) s.parts.assertions ≡ flat_map (assertion_faults names (kinds_seen files at f) at f) f.parts.assertions
  assertions_told at f s h =
      ap (λ ps. flat_map (held_assertion_faults names (kinds_seen files at f) at s.index) (assertions_in ps)) h.parts
      ∙ (λ j. flat_map (λ a. fault_where (not (defines_same f s h (asserted a) j)) at a.line kind.Undefined ++ fault_of at a.line (trouble_kind (trouble_of names (kinds_seen files at f) a))) f.parts.assertions)
    where
      assertions_in : Parts → List Assertion
      assertions_in ps = ps.assertions

  file_same : (at : ℕ) (f : File) (s : Source) → IsHeld f s → held_faults names sources at f.unit s (setting_of files at f) ≡ file_faults names files at f
  file_same at f s h = λ j.
      map (broken_fault at) (h.parts j).broken
      ++ (exports_told at f s h j
      ++ (flat_map (λ i. imports_same at i j) f.unit.imports
      ++ (assertions_told at f s h j
      ++ flat_map (clause_faults (scope_of files at f) at) (h.parts j).clauses)))

  place_same : (at : ℕ) (f : File) (found : Option Source) (setting : Option Setting) → Looks (Some f) found → setting ≡ Some (setting_of files at f)
      → held_at names sources at f.unit found setting ≡ file_faults names files at f
  place_same at f None setting h e = absurd h
  place_same at f (Some s) setting h e = ap (held_at names sources at f.unit (Some s)) e ∙ file_same at f s h

  -- those of the units that are left
  left_same : (us : List Unit) (at : ℕ) → ((i : ℕ) → slice_get files (i + at) ≡ slice_get (map file_of us) i)
      → held_from names sources (settings files) at us ≡ faults_from names files at (map file_of us)
  left_same [] at h = refl
  left_same (u ∷ us) at h =
      ap (λ fs. fs ++ held_from names sources (settings files) (suc at) us)
      (place_same at (file_of u) (slice_get sources at) (slice_get (settings files) at)
      (subst (λ o. Looks o (slice_get sources at)) here (held at)) (setting_there files 0 files at (file_of u) here at (omega arith)))
      ∙ ap (λ fs. file_faults names files at (file_of u) ++ fs) (left_same us (suc at) behind)
    where
      here : slice_get files at ≡ Some (file_of u)
      here = let same : at ≡ 0 + at = omega arith in ap (slice_get files) same ∙ h 0

      behind : (i : ℕ) → slice_get files (i + suc at) ≡ slice_get (map file_of us) i
      behind i = let same : i + suc at ≡ suc i + at = omega arith in ap (slice_get files) same ∙ h (suc i)

all_same : (names : List Word) (us : List Unit) (sources : List Source) → AreSources 0 0 (map file_of us) sources
    → held_from names sources (settings (map file_of us)) 0 us ≡ faults_from names (map file_of us) 0 (map file_of us)
all_same names us sources h =
    left_same names (map file_of us) sources (looks_at 0 0 (map file_of us) sources h) us 0
    (λ i. let same : i + 0 ≡ i = omega arith in ap (slice_get (map file_of us)) same)

-- of types there is one fault at most
types_told : (found : Option Fault) (t : Option TypeFault) → sooner found (least (type_faults t)) ≡ least_from found (type_faults t)
types_told None None = refl
types_told (Some f) None = refl
types_told found (Some (types.BadRegtype position place)) = refl
types_told found (Some (types.UnknownProperty position place)) = refl
types_told found (Some (types.Ambiguous position place)) = refl
types_told None (Some types.TooManyNames) = refl
types_told (Some f) (Some types.TooManyNames) = refl
types_told None (Some types.NoMemory) = refl
types_told (Some f) (Some types.NoMemory) = refl

-- the first fault of units and the one that types have
pub least_is : (names : List Word) (us : List Unit) (sources : List Source) (held_settings : List Setting) (told found : Option Fault)
    → AreSources 0 0 (map file_of us) sources → held_settings ≡ settings (map file_of us)
    → least_from None (type_faults (refused (type_modules (map file_of us)))) ≡ told
    → found ≡ least (held_from names sources held_settings 0 us)
    → sooner found told ≡ least (all_faults names (map file_of us))
least_is names us sources held_settings told found are set types_are is =
    let files = map file_of us in
    let refusal = refused (type_modules files) in
    ap (λ f. sooner f told) (is ∙ ap (λ ss. least (held_from names sources ss 0 us)) set ∙ ap least (all_same names us sources are))
    ∙ ap (sooner (least (faults_from names files 0 files))) (sym types_are)
    ∙ types_told (least (faults_from names files 0 files)) refusal
    ∙ sym (least_behind None (faults_from names files 0 files) (type_faults refusal))

-- a turn of the loop over units
pub held_next : (names : List Word) (sources : List Source) (ss : List Setting) (old new : Option Fault) (us : List Unit) (at : ℕ) (u : Unit) → at < length us → u ≡ get_or us at u
    → new ≡ least_from old (held_at names sources at u (slice_get sources at) (slice_get ss at))
    → least_from new (held_from names sources ss (at + 1) (drop (at + 1) us)) ≡ least_from old (held_from names sources ss at (drop at us))
held_next names sources ss old new us at u lt e is =
    let left = drop (at + 1) us in
    let same : at + 1 ≡ suc at = omega arith in
    ap (λ n. least_from new (held_from names sources ss n left)) same
    ∙ then_more old new (least_from new (held_from names sources ss (suc at) left)) (held_at names sources at u (slice_get sources at) (slice_get ss at)) (held_from names sources ss (suc at) left) is refl
    ∙ sym (turn (λ xs. least_from old (held_from names sources ss at xs)) us at u lt e)
