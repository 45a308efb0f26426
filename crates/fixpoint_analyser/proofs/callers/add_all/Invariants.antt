use Rattle.fixpoint_analyser.specs.Callers.{HasCallers}
use Rattle.fixpoint_analyser.proofs.callers.add_all.Given as goal

abbrev pub invariant-loop-pred : goal.invariant-loop-pred
invariant-loop-pred l = HasCallers l.preds l.pred l.lists
