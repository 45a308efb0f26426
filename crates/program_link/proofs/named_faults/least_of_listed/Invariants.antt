use Rattle.std.proofs.Common.{◌≡◌, drop}
use Rattle.std.specs.Prelude.{flat_map}
use Rattle.program_link.specs.FaultOrder.{least_from}
use Rattle.program_link.specs.HeldFaults.{held_export_faults}
use Rattle.program_link.proofs.named_faults.least_of_listed.Given as goal

abbrev pub invariant-loop-export : goal.invariant-loop-export
invariant-loop-export l =
    least_from l.least (flat_map (held_export_faults l.at l.index) (drop l.export-index l.exports)) ≡ least_from l.fn.found (flat_map (held_export_faults l.at l.index) l.exports)
