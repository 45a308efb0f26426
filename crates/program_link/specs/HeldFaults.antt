-- What is wrong with units, by what is held of them. Contracts of private functions alone.
-- The headline does not rest on this file.
use Rattle.std.specs.Prelude.{ℕ, suc, not, List, [], ◌∷◌, ◌++◌, map, flat_map, slice_get, Option, Some, None}
use Rattle.prog_data.specs.declared.grammars.Seen.{Seen}
use Rattle.prog_data.specs.declared.refusals.RefusalKind.TheVariants as kind
use Rattle.ciao_modules.specs.FileNames.{Word}
use Rattle.ciao_modules.specs.UnitRanges.{exports_of}
use Rattle.ciao_modules.specs.declared.units.Export.{Export}
use Rattle.ciao_modules.specs.declared.units.Unit.{Unit}
use Rattle.assertion_read.specs.declared.assertions.Assertion.{Assertion}
use Rattle.assertion_normal.specs.Troubles.{trouble_of}
use Rattle.unit_scopes.specs.Indicators.{is_among}
use Rattle.unit_scopes.specs.Numbering.{asserted}
use Rattle.unit_scopes.specs.Imports.{exported}
use Rattle.unit_scopes.specs.declared.indexes.Index.{Index}
use Rattle.unit_scopes.specs.declared.settings.Setting.{Setting}
use Rattle.unit_scopes.specs.declared.sources.Source.{Source}
use Rattle.program_link.specs.NamedFaults.{fault_where, fault_of, broken_fault}
use Rattle.program_link.specs.Faults.{trouble_kind, clause_faults}
use Rattle.program_link.specs.Offers.{source_import_faults}
use Rattle.program_link.specs.declared.faults.Fault.{Fault}

-- an export without clauses
abbrev pub held_export_faults : ℕ → Index → Export → List Fault
held_export_faults at x e = fault_where (not (is_among (exported e) x.defined.keys)) at e.line kind.Undefined

-- an assertion about a predicate without clauses, and one whose properties are in trouble
abbrev pub held_assertion_faults : List Word → List Seen → ℕ → Index → Assertion → List Fault
held_assertion_faults names seen at x a =
    fault_where (not (is_among (asserted a) x.defined.keys)) at a.line kind.Undefined ++ fault_of at a.line (trouble_kind (trouble_of names seen a))

-- those of a unit, but for its types
abbrev pub held_faults : List Word → List Source → ℕ → Unit → Source → Setting → List Fault
held_faults names sources at u s setting =
    map (broken_fault at) s.parts.broken
    ++ (flat_map (held_export_faults at s.index) (exports_of u.exports)
    ++ (flat_map (source_import_faults names sources at) u.imports
    ++ (flat_map (held_assertion_faults names setting.scope.types at s.index) s.parts.assertions
    ++ flat_map (clause_faults setting.scope at) s.parts.clauses)))

-- the same where what is held of it is there
abbrev pub held_at : List Word → List Source → ℕ → Unit → Option Source → Option Setting → List Fault
held_at names sources at u None setting = []
held_at names sources at u (Some s) None = []
held_at names sources at u (Some s) (Some setting) = held_faults names sources at u s setting

-- those of units, the first of which is at this place
abbrev pub held_from : List Word → List Source → List Setting → ℕ → List Unit → List Fault
held_from names sources settings at [] = []
held_from names sources settings at (u ∷ us) =
    held_at names sources at u (slice_get sources at) (slice_get settings at) ++ held_from names sources settings (suc at) us
