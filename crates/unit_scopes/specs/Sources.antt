-- What the code holds of a unit, found by name.
-- The headline does not rest on this file.
use Rattle.std.specs.Prelude.{◌≡◌, ℕ, suc, ◌+◌, Bool, true, false, not, ◌&&◌, ◌||◌, ◌==◌, nat_eq, List, [], ◌∷◌, ◌++◌, filter, flat_map, length, slice_get, Option, Some, None, if◌then◌else◌}
use Rattle.std.specs.Option.{option_map_or}
use Rattle.std.specs.List.{list_any}
use Rattle.term_core.specs.Terms.{with_new}
use Rattle.ciao_modules.specs.UnitRanges.{exports_of}
use Rattle.ciao_modules.specs.declared.units.Export.{Export}
use Rattle.ciao_modules.specs.declared.units.Import.{Import}
use Rattle.body_code.specs.declared.faults.Indicator.{Indicator}
use Rattle.body_code.specs.declared.scopes.Named.{Named}
use Rattle.regtype_grammar.specs.declared.modules.SeenType.{SeenType}
use Rattle.unit_scopes.specs.Indicators.{is_among, with_indicator}
use Rattle.unit_scopes.specs.Sayings.{File}
use Rattle.unit_scopes.specs.Numbering.{indicators, numbered}
use Rattle.unit_scopes.specs.Groups.{AreGroups, clause_place, assertion_place}
use Rattle.unit_scopes.specs.Imports.{exported, exports_all, is_named_in, lets_in, indicator_named, type_indicator, own_types}
use Rattle.unit_scopes.specs.declared.indexes.Index.{Index}
use Rattle.unit_scopes.specs.declared.indexes.LetIn.{LetIn}
use Rattle.unit_scopes.specs.declared.indexes.Wanted.{Wanted}
use Rattle.unit_scopes.specs.declared.sayings.Declared.{Declared}
use Rattle.unit_scopes.specs.declared.sources.Source.{Source}

-- whether two are the same
abbrev pub same_wanted : Wanted → Wanted → Bool
same_wanted a b = (a.unit == b.unit) && ((a.name == b.name) && (a.arity == b.arity))

-- a predicate as it is wanted of the unit at a place
abbrev pub wanted_of : ℕ → Indicator → Wanted
wanted_of at p = record { unit = at; name = p.name; arity = p.arity }

-- the predicates that directives name, behind those before
abbrev pub named_behind : List Indicator → List Export → List Indicator
named_behind ps [] = ps
named_behind ps (e ∷ es) = named_behind (with_indicator ps (exported e)) es

-- the predicates that imports name, and the units of which they let all in
pub record Imported : Type 0 where
  pub whole : List ℕ
  pub wanted : List Wanted

-- the same as the code holds it
abbrev pub let_in_seen : LetIn → Imported
let_in_seen l = record { whole = l.whole.keys; wanted = l.wanted.keys }

-- with a predicate that is wanted
abbrev pub with_wanted : List Wanted → Wanted → List Wanted
with_wanted ws w = if list_any (same_wanted w) ws then ws else ws ++ w ∷ []

-- with the predicates that a list names of the unit at a place
abbrev pub wanted_behind : List Wanted → ℕ → List Export → List Wanted
wanted_behind ws at [] = ws
wanted_behind ws at (e ∷ es) = wanted_behind (with_wanted ws (wanted_of at (exported e))) at es

-- with an import of the unit at a place
abbrev pub with_only : Imported → ℕ → Option (List Export) → Imported
with_only i at None = record i { whole = with_new i.whole at }
with_only i at (Some only) = record i { wanted = wanted_behind i.wanted at only }

-- with imports
abbrev pub imports_behind : Imported → List Import → Imported
imports_behind i [] = i
imports_behind i (x ∷ xs) = imports_behind (with_only i x.unit x.only) xs

-- whether a predicate of the unit at a place is let in
abbrev pub lets : Imported → ℕ → Indicator → Bool
lets i at p = list_any (nat_eq at) i.whole || list_any (same_wanted (wanted_of at p)) i.wanted

-- whether an index has it that its unit exports a predicate
abbrev pub index_exports : Index → Indicator → Bool
index_exports x p = (x.all && is_among p x.defined.keys) || is_among p x.exported.keys

-- whether it has it that an import of the unit at a place lets a predicate in
abbrev pub index_lets_in : Index → ℕ → Indicator → Bool
index_lets_in x at p = lets (record { whole = x.whole.keys; wanted = x.wanted.keys }) at p

-- whether a unit gets a predicate from the unit at a place, by their indexes
abbrev pub index_gets : Index → ℕ → Index → Indicator → Bool
index_gets f at g p = index_lets_in f at p && (index_exports g p && is_among p g.defined.keys)

-- an index is that of a file
pub record IsIndex (f : File) (x : Index) : Type 0 where
  pub defined : x.defined.keys ≡ indicators f
  pub all : x.all ≡ exports_all f.unit.exports
  pub exported : (p : Indicator) → is_among p x.exported.keys ≡ is_named_in (exports_of f.unit.exports) p
  pub lets_in : (at : ℕ) (p : Indicator) → index_lets_in x at p ≡ list_any (lets_in at p) f.unit.imports

-- the names that types have, behind those before
abbrev pub type_names_behind : List ℕ → List Declared → List ℕ
type_names_behind ns [] = ns
type_names_behind ns (d ∷ ds) = type_names_behind (with_new ns d.name) ds

-- what is held of the file at a place, whose predicates are numbered on from a number
pub record IsSource (at first : ℕ) (f : File) (s : Source) : Type 0 where
  pub file : s.file ≡ f.unit.file
  pub «module» : s.«module» ≡ f.unit.name
  pub parts : s.parts ≡ f.parts
  pub index : IsIndex f s.index
  pub preds : s.preds ≡ numbered first (indicators f)
  pub types : s.types ≡ own_types at f
  pub declared : s.declared.keys ≡ type_names_behind [] f.parts.types
  pub clauses : AreGroups (length (indicators f)) (clause_place (indicators f)) f.parts.clauses s.clauses
  pub assertions : AreGroups (length (indicators f)) (assertion_place (indicators f)) f.parts.assertions s.assertions

-- the predicates that a unit gets from others, the first of which is at this place
abbrev pub preds_given : Index → ℕ → List Source → List Named
preds_given f at [] = []
preds_given f at (g ∷ gs) =
    filter (λ m. index_gets f at g.index (indicator_named m) && not (is_among (indicator_named m) f.defined.keys)) g.preds ++ preds_given f (suc at) gs

-- the types that a unit gets from others, the first of which is at this place
abbrev pub types_given : Source → ℕ → List Source → List SeenType
types_given f at [] = []
types_given f at (g ∷ gs) =
    filter (λ t. index_gets f.index at g.index (type_indicator t.name) && not (list_any (nat_eq t.name) f.declared.keys)) g.types ++ types_given f (suc at) gs

-- what is held of files, the first of which is at this place and has its predicates numbered on from a number
abbrev pub AreSources : ℕ → ℕ → List File → List Source → Type 0
AreSources at first [] sources = sources ≡ []
AreSources at first (f ∷ fs) [] = ⊥
AreSources at first (f ∷ fs) (s ∷ ss) = IsSource at first f s × AreSources (suc at) (length (indicators f) + first) fs ss
