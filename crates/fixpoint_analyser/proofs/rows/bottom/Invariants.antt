use Rattle.std.proofs.Common.{◌≡◌, ◌++◌, drop, map}
use Rattle.goal_transfer.specs.Tables.{row_seen}
use Rattle.fixpoint_analyser.specs.Ascent.{unreached}
use Rattle.fixpoint_analyser.proofs.rows.bottom.Given as goal

abbrev pub invariant-loop-pred : goal.invariant-loop-pred
invariant-loop-pred l = map row_seen l.rows.items ++ map (λ p. unreached p.arity) (drop l.pred-index l.pred-items) ≡ map (λ p. unreached p.arity) l.pred-items
