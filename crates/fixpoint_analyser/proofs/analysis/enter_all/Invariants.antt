use Rattle.fixpoint_analyser.proofs.Entered.{EnteredFirst}
use Rattle.fixpoint_analyser.proofs.analysis.enter_all.Given as goal

abbrev pub invariant-loop-entry : goal.invariant-loop-entry
invariant-loop-entry l = EnteredFirst l.program l.fn.rows l.fn.waiting l.rows l.exits l.waiting l.entry-index
