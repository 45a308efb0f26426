use Rattle.std.proofs.Common.{◌≡◌, drop}
use Rattle.std.specs.Prelude.{flat_map}
use Rattle.program_link.specs.FaultOrder.{least_from}
use Rattle.program_link.specs.Faults.{clause_faults}
use Rattle.program_link.proofs.sentence_faults.least_of_clauses.Given as goal

abbrev pub invariant-loop-clause : goal.invariant-loop-clause
invariant-loop-clause l =
    least_from l.least (flat_map (clause_faults l.scope l.at) (drop l.clause-index l.clauses)) ≡ least_from l.fn.found (flat_map (clause_faults l.scope l.at) l.clauses)
