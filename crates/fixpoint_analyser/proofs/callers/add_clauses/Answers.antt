use Rattle.fixpoint_analyser.proofs.CallerLaws.{clauses_turn}
use Rattle.fixpoint_analyser.proofs.callers.add_clauses.Goals as goal

pub loop-clause-preserved : goal.loop-clause-preserved
loop-clause-preserved c =
    clauses_turn c.args.lists.now c.loop-clause.lists c.add_calls.new.lists c.args.pred c.loop-clause.clause-index c.args.clauses.now c.clause-item.result c.loop-clause-test.true c.clause-item.is c.loop-clause.invariant c.in_ok-add_calls.ensures
