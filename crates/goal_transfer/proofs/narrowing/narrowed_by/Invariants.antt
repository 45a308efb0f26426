use Rattle.std.proofs.Common.{◌≡◌, ◌≤◌, length, map, drop}
use Rattle.prog_data.specs.Values.{seen}
use Rattle.name_order.specs.Relations.{order}
use Rattle.goal_transfer.specs.Conditions.{narrowed_by}
use Rattle.goal_transfer.specs.States.{list_seen}
use Rattle.goal_transfer.proofs.narrowing.narrowed_by.Given as goal

abbrev pub invariant-loop-left : goal.invariant-loop-left
invariant-loop-left l = (l.left ≤ length l.disjuncts) × (list_seen l.narrowed ≡ narrowed_by (order l.rel) l.arity (map seen l.entry) (drop l.left l.disjuncts))

abbrev pub decreases-loop-left : goal.decreases-loop-left
decreases-loop-left l = l.left
