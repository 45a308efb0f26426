-- What programs are made of, by what is held of units. Contracts of private functions alone.
-- The headline does not rest on this file.
use Rattle.std.specs.Prelude.{◌≡◌, ℕ, suc, ◌+◌, Bool, false, ◌&&◌, ◌==◌, List, [], ◌∷◌, ◌++◌, map, length, position, slice_get, slice_index_or, slice_set, Option, Some, None, option_map, option_and_then, if◌then◌else◌}
use Rattle.std.specs.Option.{option_map_or}
use Rattle.std.specs.List.{AllByRecursion}
use Rattle.term_core.specs.Standard.{standard}
use Rattle.ciao_reader.specs.declared.sentences.Sentence.{Sentence}
use Rattle.prog_data.specs.declared.grammars.Grammar.{Grammar}
use Rattle.prog_data.specs.declared.programs.Claim.{Claim}
use Rattle.prog_data.specs.declared.programs.Entry.{Entry}
use Rattle.prog_data.specs.declared.programs.Pred.{Pred}
use Rattle.prog_data.specs.declared.programs.Program.{Program}
use Rattle.ciao_modules.specs.FileNames.{Word}
use Rattle.assertion_read.specs.declared.assertions.Assertion.{Assertion}
use Rattle.assertion_normal.specs.Settling.{in_order}
use Rattle.assertion_normal.specs.Troubles.{least_trouble}
use Rattle.assertion_normal.specs.declared.outcomes.Normal.{Normal}
use Rattle.body_code.specs.Clauses.{problem_of}
use Rattle.body_code.specs.declared.faults.Indicator.{Indicator}
use Rattle.unit_scopes.specs.Sayings.{File}
use Rattle.unit_scopes.specs.Indicators.{same_indicator}
use Rattle.unit_scopes.specs.Numbering.{asserted}
use Rattle.unit_scopes.specs.Sources.{index_exports}
use Rattle.unit_scopes.specs.declared.settings.Setting.{Setting}
use Rattle.unit_scopes.specs.declared.sources.Source.{Source}
use Rattle.program_link.specs.Programs.{conditions, normals_behind, pred_made, beside, is_reported, entries_or_any, program_of}
use Rattle.program_link.specs.declared.drafts.Draft.{Draft}
use Rattle.program_link.specs.declared.drafts.UnitPred.{UnitPred}
use Rattle.program_link.specs.declared.outcomes.RoomFault.{RoomFault}
use Rattle.program_link.specs.declared.outcomes.RoomFault.TheVariants as room
use Rattle.program_link.specs.declared.programs.ProgramFault.{ProgramFault}
use Rattle.program_link.specs.declared.programs.ProgramFault.TheVariants as fault
use Rattle.program_link.specs.declared.programs.ProgramParts.{ProgramParts}

-- why something is not made: the grammar has no room for it; memory may be refused at any
abbrev pub IsNoRoom : {A : Type 0} → Option A → RoomFault → Type 0
IsNoRoom made room.TooManyNames = made ≡ None
IsNoRoom made room.NoMemory = Unit {0}

-- why files have no program, with the names as they were; memory may be refused at any
abbrev pub IsNoProgram : List Word → List File → ProgramFault → Type 0
IsNoProgram names files (fault.TooManyNames back) = (program_of names files ≡ None) × (back ≡ names)
IsNoProgram names files fault.NoMemory = Unit {0}

-- drafts

-- a predicate of the unit at a place
abbrev pub pred_at : ℕ → Indicator → UnitPred
pred_at at p = record { unit = at; indicator = p }

-- the predicates of units, the first of which is at this place
abbrev pub unit_preds_from : ℕ → List Source → List UnitPred
unit_preds_from at [] = []
unit_preds_from at (s ∷ ss) = map (pred_at at) s.index.defined.keys ++ unit_preds_from (suc at) ss

-- the group of a number, none of no number
abbrev pub group_of : List (List ℕ) → Option ℕ → List ℕ
group_of groups None = []
group_of groups (Some q) = slice_index_or groups q []

-- what there is, as a list
abbrev pub if_there : {A : Type 0} → Option A → List A
if_there o = option_map_or (λ x. x ∷ []) o []

-- the items at some places
abbrev pub items_at : {A : Type 0} → List A → List ℕ → List A
items_at xs [] = []
items_at xs (n ∷ ns) = if_there (slice_get xs n) ++ items_at xs ns

-- the clauses of a predicate in what is held of its unit
abbrev pub clauses_held : Indicator → Option Source → List Sentence
clauses_held p None = []
clauses_held p (Some s) = items_at s.parts.clauses (group_of s.clauses (position (same_indicator p) s.index.defined.keys))

-- the assertions about it
abbrev pub assertions_held : Indicator → Option Source → List Assertion
assertions_held p None = []
assertions_held p (Some s) = items_at s.parts.assertions (group_of s.assertions (position (same_indicator p) s.index.defined.keys))

-- a predicate with both
abbrev pub draft_held : List Source → UnitPred → Draft
draft_held sources p = record {
  unit = p.unit;
  indicator = p.indicator;
  clauses = clauses_held p.indicator (slice_get sources p.unit);
  assertions = assertions_held p.indicator (slice_get sources p.unit);
}

-- the predicates of all units
abbrev pub drafts_held : List Source → List Draft
drafts_held sources = map (draft_held sources) (unit_preds_from 0 sources)

-- no assertion about a predicate is in trouble, where its unit has a setting
abbrev pub HasNoTrouble : List Word → List Setting → Draft → Type 0
HasNoTrouble names settings d = (s : Setting) → slice_get settings d.unit ≡ Some s → least_trouble names s.scope.types d.assertions ≡ None

-- clauses in a setting have no problem
abbrev pub AreClauses : Setting → List Sentence → Type 0
AreClauses s clauses = AllByRecursion (λ c. problem_of s.scope c.term ≡ None) clauses

-- none of the clauses of a predicate has a problem, where its unit has a setting
abbrev pub HasNoProblem : List Setting → Draft → Type 0
HasNoProblem settings d = (s : Setting) → slice_get settings d.unit ≡ Some s → AreClauses s d.clauses

-- claims

-- the claims about the predicate of a number
abbrev pub claims_at : List Normal → ℕ → List Claim
claims_at normals n = option_map_or (λ m. m.claims) (slice_get normals n) []

-- the claim of an assertion about the predicate at a place, which has as many before it as were counted there
abbrev pub claim_counted : List Normal → ℕ → List ℕ → Option ℕ → List Claim
claim_counted normals first counts None = []
claim_counted normals first counts (Some q) = if_there (slice_get (claims_at normals (q + first)) (slice_index_or counts q 0))

-- with one more at a place
abbrev pub counted_at : List ℕ → Option ℕ → List ℕ
counted_at counts None = counts
counted_at counts (Some q) = slice_set counts q (slice_index_or counts q 0 + 1)

-- the predicate that a reported assertion is about, by its place among others
abbrev pub reported_at : List Indicator → Assertion → Option ℕ
reported_at ps a = if is_reported a then position (same_indicator (asserted a)) ps else None

-- the claims of assertions, in order, behind so many reported assertions about each predicate
abbrev pub claims_counted : List Normal → ℕ → List Indicator → List ℕ → List Assertion → List Claim
claims_counted normals first ps counts [] = []
claims_counted normals first ps counts (a ∷ rest) =
    claim_counted normals first counts (reported_at ps a) ++ claims_counted normals first ps (counted_at counts (reported_at ps a)) rest

-- none is counted yet
abbrev pub no_counts : List Indicator → List ℕ
no_counts ps = map (λ p. 0) ps

-- the claims of units, the predicates of the first of which are numbered on from a number
abbrev pub claims_held : List Normal → ℕ → List Source → List Claim
claims_held normals first [] = []
claims_held normals first (s ∷ ss) =
    claims_counted normals first s.index.defined.keys (no_counts s.index.defined.keys) s.parts.assertions ++ claims_held normals (length s.index.defined.keys + first) ss

-- exports and entries

-- whether a predicate of the unit at a place is one that the main unit exports
abbrev pub is_main_held : List Source → UnitPred → Bool
is_main_held sources p = option_map_or (λ main. (p.unit == 0) && index_exports main.index p.indicator) (slice_get sources 0) false

-- the numbers of those that the main unit exports
abbrev pub exports_held : List Source → ℕ → List UnitPred → List ℕ
exports_held sources n [] = []
exports_held sources n (p ∷ ps) = (if is_main_held sources p then n ∷ [] else []) ++ exports_held sources (suc n) ps

-- the entries of a predicate that is wanted, if its assertions give something
abbrev pub entries_by : Bool → ℕ → Option Normal → List Entry
entries_by wanted n None = []
entries_by wanted n (Some m) = if wanted then entries_or_any n m.entries else []

-- the entries of the predicates that the main unit exports
abbrev pub entries_held : List Source → List Normal → ℕ → List UnitPred → List Entry
entries_held sources normals n [] = []
entries_held sources normals n (p ∷ ps) = entries_by (is_main_held sources p) n (slice_get normals n) ++ entries_held sources normals (suc n) ps

-- programs

-- what a program has besides its names, its operators and its grammar
abbrev pub parts_with : List Source → List UnitPred → List Normal → List Pred → ProgramParts
parts_with sources ps normals preds = record {
  files = map (λ s. s.file) sources;
  preds = preds;
  conds = conditions normals;
  claims = claims_held normals 0 sources;
  exports = exports_held sources 0 ps;
  entries = entries_held sources normals 0 ps;
}

-- the same by what the assertions of its predicates give
abbrev pub parts_by : List Source → List Setting → List UnitPred → Grammar × List Normal → Option (Grammar × ProgramParts)
parts_by sources settings ps given =
    option_map (λ made. (made.0, parts_with sources ps given.1 made.1)) (in_order (pred_made settings) (given.0, []) (beside (map (draft_held sources) ps) given.1))

-- the same, and the grammar behind it; none where that has no room
abbrev pub parts_held : List Word → List Source → List Setting → List UnitPred → Grammar → Option (Grammar × ProgramParts)
parts_held names sources settings ps g = option_and_then (parts_by sources settings ps) (normals_behind names settings (g, []) (map (draft_held sources) ps))

-- the program of these
abbrev pub program_held : List Word → Grammar → ProgramParts → Program
program_held names g parts = record {
  names = names;
  ops = standard;
  files = parts.files;
  preds = parts.preds;
  conds = parts.conds;
  claims = parts.claims;
  grammar = g;
  exports = parts.exports;
  entries = parts.entries;
}
