use Rattle.std.specs.Prelude.{map}
use Rattle.goal_transfer.specs.Tables.{row_seen}
use Rattle.fixpoint_analyser.specs.Progress.{Steps, FirstSettled}
use Rattle.fixpoint_analyser.proofs.analysis.run_all.Given as goal

abbrev pub invariant-loop-clause : goal.invariant-loop-clause
invariant-loop-clause l = record {
  steps : Steps l.program l.fn.rows l.fn.waiting l.rows l.exits l.waiting;
  settled : FirstSettled l.program (map row_seen l.rows) l.waiting l.pred l.clause;
}
