use Rattle.std.proofs.Common.{◌≡◌, ◌++◌, drop, map}
use Rattle.prog_data.specs.Values.{seen}
use Rattle.name_order.specs.Relations.{order}
use Rattle.goal_transfer.specs.Conditions.{meet_each}
use Rattle.goal_transfer.proofs.lists.met_each.Given as goal

abbrev pub invariant-loop-index : goal.invariant-loop-index
invariant-loop-index l = map seen l.made ++ meet_each (order l.rel) (map seen (drop l.index l.left)) (map seen (drop l.index l.right)) ≡ meet_each (order l.rel) (map seen l.left) (map seen l.right)
