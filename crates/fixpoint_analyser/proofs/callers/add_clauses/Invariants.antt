use Rattle.std.proofs.Common.{take}
use Rattle.fixpoint_analyser.specs.Callers.{HasAdded}
use Rattle.fixpoint_analyser.proofs.CallerLaws.{some_calls}
use Rattle.fixpoint_analyser.proofs.callers.add_clauses.Given as goal

abbrev pub invariant-loop-clause : goal.invariant-loop-clause
invariant-loop-clause l = HasAdded l.fn.lists l.lists l.pred (some_calls (take l.clause-index l.clauses))
