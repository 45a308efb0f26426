-- What is made of what is held of units. Contracts of private functions alone.
-- The headline does not rest on this file.
use Rattle.std.specs.Prelude.{ℕ, List, [], ◌∷◌, ◌++◌, map, slice_get, slice_index_or, position, Option, Some, None}
use Rattle.ciao_reader.specs.declared.sentences.Sentence.{Sentence}
use Rattle.regtype_grammar.specs.declared.modules.RegType.{RegType}
use Rattle.regtype_grammar.specs.declared.modules.TypeModule.{TypeModule}
use Rattle.regtype_grammar.specs.TypeNames.{numbered as kinds_of}
use Rattle.body_code.specs.declared.faults.Indicator.{Indicator}
use Rattle.body_code.specs.declared.scopes.Visible.{Visible}
use Rattle.unit_scopes.specs.Indicators.{same_indicator}
use Rattle.unit_scopes.specs.Imports.{type_indicator}
use Rattle.unit_scopes.specs.Sources.{preds_given, types_given}
use Rattle.unit_scopes.specs.declared.sayings.Declared.{Declared}
use Rattle.unit_scopes.specs.declared.settings.Setting.{Setting}
use Rattle.unit_scopes.specs.declared.sources.Source.{Source}

-- the clause at a place, if it is there
abbrev pub clause_at : Option Sentence → List Sentence
clause_at None = []
clause_at (Some s) = s ∷ []

-- the clauses at some places
abbrev pub clauses_at : List Sentence → List ℕ → List Sentence
clauses_at ss [] = []
clauses_at ss (n ∷ ns) = clause_at (slice_get ss n) ++ clauses_at ss ns

-- the group of a number, none of no number
abbrev pub group_at : List (List ℕ) → Option ℕ → List ℕ
group_at groups None = []
group_at groups (Some q) = slice_index_or groups q []

-- the places of the clauses of a predicate
abbrev pub places_held : Source → Indicator → List ℕ
places_held s p = group_at s.clauses (position (same_indicator p) s.index.defined.keys)

-- the clauses of a predicate
abbrev pub clauses_held : Source → Indicator → List Sentence
clauses_held s p = clauses_at s.parts.clauses (places_held s p)

-- a declared type with the clauses of its predicate
abbrev pub type_held : Source → Declared → RegType
type_held s d = record { name = d.name; clauses = clauses_held s (type_indicator d.name); place = record { file = s.file; line = d.line } }

-- the types of a unit among others
abbrev pub module_held : List Source → Source → TypeModule
module_held sources s = record { file = s.file; types = map (type_held s) s.parts.types; visible = s.types ++ types_given s 0 sources }

-- what is seen in a unit among others, where the types of each unit are numbered on from a number
abbrev pub scope_held : List ℕ → List Source → Source → Visible
scope_held firsts sources s = record { preds = s.preds ++ preds_given s.index 0 sources; types = kinds_of firsts (s.types ++ types_given s 0 sources) }

-- what its predicates have in common
abbrev pub setting_held : List ℕ → List Source → Source → Setting
setting_held firsts sources s = record { file = s.file; «module» = s.«module»; scope = scope_held firsts sources s }
