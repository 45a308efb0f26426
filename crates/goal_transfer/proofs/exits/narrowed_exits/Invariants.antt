use Rattle.name_order.specs.Relations.{order}
use Rattle.goal_transfer.proofs.StoredExits.{AreStored}
use Rattle.goal_transfer.proofs.exits.narrowed_exits.Given as goal

abbrev pub invariant-loop-pred : goal.invariant-loop-pred
invariant-loop-pred l = AreStored l.program (order l.rel) l.row-items l.pred l.made
