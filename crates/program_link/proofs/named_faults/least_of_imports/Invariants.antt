use Rattle.std.proofs.Common.{◌≡◌, drop}
use Rattle.std.specs.Prelude.{flat_map}
use Rattle.program_link.specs.FaultOrder.{least_from}
use Rattle.program_link.specs.Offers.{source_import_faults}
use Rattle.program_link.proofs.named_faults.least_of_imports.Given as goal

abbrev pub invariant-loop-import : goal.invariant-loop-import
invariant-loop-import l =
    least_from l.least (flat_map (source_import_faults l.names l.sources l.at) (drop l.import-index l.imports))
    ≡ least_from l.fn.found (flat_map (source_import_faults l.names l.sources l.at) l.imports)
