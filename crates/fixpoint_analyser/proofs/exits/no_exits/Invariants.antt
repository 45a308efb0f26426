use Rattle.fixpoint_analyser.proofs.ExitLaws.{NoExits}
use Rattle.fixpoint_analyser.proofs.exits.no_exits.Given as goal

abbrev pub invariant-loop-pred : goal.invariant-loop-pred
invariant-loop-pred l = NoExits l._pred-index l.exits.items
