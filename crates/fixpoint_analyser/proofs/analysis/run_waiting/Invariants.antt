use Rattle.std.specs.Prelude.{map}
use Rattle.goal_transfer.specs.Tables.{row_seen}
use Rattle.fixpoint_analyser.specs.Progress.{work_left}
use Rattle.fixpoint_analyser.proofs.Turns.{Turned}
use Rattle.fixpoint_analyser.proofs.analysis.run_waiting.Given as goal

abbrev pub invariant-loop-pred : goal.invariant-loop-pred
invariant-loop-pred l = Turned l.program l.fn.rows l.rows l.exits l.waiting

abbrev pub decreases-loop-pred : goal.decreases-loop-pred
decreases-loop-pred l = work_left l.program (map row_seen l.rows) l.waiting
