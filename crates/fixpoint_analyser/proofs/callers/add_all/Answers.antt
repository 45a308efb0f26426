use Rattle.fixpoint_analyser.proofs.CallerLaws.{callers_turn}
use Rattle.fixpoint_analyser.proofs.callers.add_all.Goals as goal

pub loop-pred-preserved : goal.loop-pred-preserved
loop-pred-preserved c =
    callers_turn c.args.preds.now c.loop-pred.pred c.loop-pred.lists c.add_clauses.new.lists c.index-preds-pred.result c.as_slice.result.now c.loop-pred-test.true c.index-preds-pred.is c.as_slice.ensures c.loop-pred.invariant c.in_ok-add_clauses.ensures
