use Rattle.fixpoint_analyser.proofs.CallAnswers.{TakenFirst}
use Rattle.fixpoint_analyser.proofs.steps.take_calls.Given as goal

abbrev pub invariant-loop-call : goal.invariant-loop-call
invariant-loop-call l = TakenFirst l.program l.fn.rows l.fn.waiting l.rows l.exits l.waiting l.calls l.call-index
