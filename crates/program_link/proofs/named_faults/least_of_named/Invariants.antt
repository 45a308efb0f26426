use Rattle.std.proofs.Common.{◌≡◌, drop}
use Rattle.std.specs.Prelude.{flat_map}
use Rattle.program_link.specs.FaultOrder.{least_from}
use Rattle.program_link.specs.Offers.{source_named_faults}
use Rattle.program_link.proofs.named_faults.least_of_named.Given as goal

abbrev pub invariant-loop-named : goal.invariant-loop-named
invariant-loop-named l =
    least_from l.least (flat_map (source_named_faults l.names l.sources l.at l.unit l.line) (drop l.named-index l.only))
    ≡ least_from l.fn.found (flat_map (source_named_faults l.names l.sources l.at l.unit l.line) l.only)
