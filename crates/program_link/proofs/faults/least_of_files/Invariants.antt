use Rattle.std.proofs.Common.{◌≡◌, drop}
use Rattle.program_link.specs.FaultOrder.{least_from, least}
use Rattle.program_link.specs.HeldFaults.{held_from}
use Rattle.program_link.proofs.faults.least_of_files.Given as goal

abbrev pub invariant-loop-at : goal.invariant-loop-at
invariant-loop-at l = least_from l.least (held_from l.names l.sources l.settings l.at (drop l.at l.units)) ≡ least (held_from l.names l.sources l.settings 0 l.units)
