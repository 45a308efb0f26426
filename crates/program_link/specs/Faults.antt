-- What is wrong with units.
-- The headline does not rest on this file.
use Rattle.std.specs.Prelude.{ℕ, suc, not, List, [], ◌∷◌, ◌++◌, map, flat_map, Option, Some, None}
use Rattle.ciao_reader.specs.declared.sentences.Sentence.{Sentence}
use Rattle.prog_data.specs.declared.refusals.RefusalKind.{RefusalKind}
use Rattle.prog_data.specs.declared.refusals.RefusalKind.TheVariants as kind
use Rattle.prog_data.specs.declared.grammars.Seen.{Seen}
use Rattle.ciao_modules.specs.FileNames.{Word}
use Rattle.assertion_read.specs.declared.assertions.Assertion.{Assertion}
use Rattle.assertion_normal.specs.Troubles.{trouble_of}
use Rattle.assertion_normal.specs.declared.troubles.Trouble.{Trouble}
use Rattle.assertion_normal.specs.declared.troubles.Trouble.TheVariants as trouble
use Rattle.regtype_grammar.specs.TypeFaults.{refused}
use Rattle.regtype_grammar.specs.declared.modules.TypeFault.{TypeFault}
use Rattle.regtype_grammar.specs.declared.modules.TypeFault.TheVariants as types
use Rattle.body_code.specs.declared.faults.Problem.{Problem}
use Rattle.body_code.specs.declared.faults.Problem.TheVariants as problem
use Rattle.body_code.specs.declared.scopes.Visible.{Visible}
use Rattle.body_code.specs.Clauses.{problem_of}
use Rattle.unit_scopes.specs.Sayings.{File}
use Rattle.unit_scopes.specs.Numbering.{defines, asserted}
use Rattle.unit_scopes.specs.Imports.{kinds_seen, scope_of, type_modules}
use Rattle.program_link.specs.NamedFaults.{fault, fault_where, fault_of, broken_fault, export_faults, import_faults}
use Rattle.program_link.specs.declared.faults.Fault.{Fault}

-- assertions

-- what is wrong with the names of properties
abbrev pub trouble_kind : Option Trouble → Option RefusalKind
trouble_kind None = None
trouble_kind (Some trouble.Unknown) = Some kind.UnknownProperty
trouble_kind (Some trouble.Several) = Some kind.Ambiguous

-- an assertion about a predicate without clauses, and one whose properties are in trouble, by the types that are seen
abbrev pub assertion_faults : List Word → List Seen → ℕ → File → Assertion → List Fault
assertion_faults names seen at f a =
    fault_where (not (defines f (asserted a))) at a.line kind.Undefined ++ fault_of at a.line (trouble_kind (trouble_of names seen a))

-- clauses

-- what is wrong with a body
abbrev pub problem_kind : Option Problem → Option RefusalKind
problem_kind None = None
problem_kind (Some problem.UnknownProperty) = Some kind.UnknownProperty
problem_kind (Some problem.BadClause) = Some kind.BadClause
problem_kind (Some problem.Ambiguous) = Some kind.Ambiguous
problem_kind (Some problem.Undefined) = Some kind.Undefined

-- the first problem of a clause, at its line
abbrev pub clause_faults : Visible → ℕ → Sentence → List Fault
clause_faults visible at s = fault_of at s.line (problem_kind (problem_of visible s.term))

-- types

-- the first fault of all types, in the unit of its module
abbrev pub type_faults : Option TypeFault → List Fault
type_faults (Some (types.BadRegtype position place)) = fault position place.line kind.BadRegtype ∷ []
type_faults (Some (types.UnknownProperty position place)) = fault position place.line kind.UnknownProperty ∷ []
type_faults (Some (types.Ambiguous position place)) = fault position place.line kind.Ambiguous ∷ []
type_faults other = []

-- all

-- those of the file at a place, but for its types
abbrev pub file_faults : List Word → List File → ℕ → File → List Fault
file_faults names files at f =
    map (broken_fault at) f.parts.broken
    ++ (export_faults at f
    ++ (flat_map (import_faults names files at) f.unit.imports
    ++ (flat_map (assertion_faults names (kinds_seen files at f) at f) f.parts.assertions
    ++ flat_map (clause_faults (scope_of files at f) at) f.parts.clauses)))

-- those of files, the first of which is at this place
abbrev pub faults_from : List Word → List File → ℕ → List File → List Fault
faults_from names files at [] = []
faults_from names files at (f ∷ fs) = file_faults names files at f ++ faults_from names files (suc at) fs

-- the faults of files, of those of types the first one
abbrev pub all_faults : List Word → List File → List Fault
all_faults names files = faults_from names files 0 files ++ type_faults (refused (type_modules files))
