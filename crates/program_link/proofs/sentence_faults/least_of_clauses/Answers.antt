use Rattle.std.proofs.Common.{◌∙◌}
use Rattle.program_link.specs.Faults.{clause_faults}
use Rattle.program_link.proofs.FaultLaws.{least_next}
use Rattle.program_link.proofs.sentence_faults.least_of_clauses.Goals as goal

pub loop-clause-preserved : goal.loop-clause-preserved
loop-clause-preserved c =
    least_next (clause_faults c.args.scope.now c.args.at) c.loop-clause.least c.least_of_clause-least.result c.args.clauses.now c.loop-clause.clause-index c.clause-item.result
    c.loop-clause-test.true c.clause-item.is c.least_of_clause-least.ensures ∙ c.loop-clause.invariant
