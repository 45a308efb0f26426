use Rattle.std.proofs.Common.{◌≡◌, drop, map}
use Rattle.program_link.specs.FaultOrder.{least_from}
use Rattle.program_link.specs.NamedFaults.{broken_fault}
use Rattle.program_link.proofs.sentence_faults.least_of_broken.Given as goal

abbrev pub invariant-loop-one : goal.invariant-loop-one
invariant-loop-one l = least_from l.least (map (broken_fault l.at) (drop l.one-index l.broken)) ≡ least_from l.fn.found (map (broken_fault l.at) l.broken)
