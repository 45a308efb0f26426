use Rattle.std.proofs.Common.{◌≡◌, drop}
use Rattle.std.specs.Prelude.{flat_map}
use Rattle.program_link.specs.FaultOrder.{least_from}
use Rattle.program_link.specs.HeldFaults.{held_assertion_faults}
use Rattle.program_link.proofs.sentence_faults.least_of_assertions.Given as goal

abbrev pub invariant-loop-assertion : goal.invariant-loop-assertion
invariant-loop-assertion l =
    least_from l.least (flat_map (held_assertion_faults l.names l.types l.at l.index) (drop l.assertion-index l.assertions))
    ≡ least_from l.fn.found (flat_map (held_assertion_faults l.names l.types l.at l.index) l.assertions)
