-- What an import names, looked up in what is held of units. Contracts of private functions alone.
-- The headline does not rest on this file.
use Rattle.std.specs.Prelude.{ℕ, Bool, false, not, ◌||◌, List, [], flat_map, slice_get, Option, Some, None}
use Rattle.std.specs.Option.{option_map_or}
use Rattle.term_core.specs.Names.{name_text}
use Rattle.prog_data.specs.declared.refusals.RefusalKind.TheVariants.{NotExported}
use Rattle.ciao_modules.specs.FileNames.{Word}
use Rattle.ciao_modules.specs.declared.units.Export.{Export}
use Rattle.ciao_modules.specs.declared.units.Import.{Import}
use Rattle.body_code.specs.declared.faults.Indicator.{Indicator}
use Rattle.unit_scopes.specs.Imports.{exported}
use Rattle.unit_scopes.specs.Sources.{index_exports}
use Rattle.unit_scopes.specs.declared.sources.Source.{Source}
use Rattle.program_link.specs.NamedFaults.{fault_where, is_everywhere}
use Rattle.program_link.specs.declared.faults.Fault.{Fault}

-- whether a unit, if it is there, has a predicate for those that name it
abbrev pub source_offers : List Word → Indicator → Option Source → Bool
source_offers names p None = false
source_offers names p (Some g) = index_exports g.index p || is_everywhere (name_text names g.file) p

-- a predicate that an import of a unit names and the unit does not have, at the line of the directive
abbrev pub source_named_faults : List Word → List Source → ℕ → (unit line : ℕ) → Export → List Fault
source_named_faults names sources at unit line e = fault_where (not (source_offers names (exported e) (slice_get sources unit))) at line NotExported

-- the same of an import
abbrev pub source_import_faults : List Word → List Source → ℕ → Import → List Fault
source_import_faults names sources at i = flat_map (source_named_faults names sources at i.unit i.line) (option_map_or (λ only. only) i.only [])
