use Rattle.std.proofs.Common.{◌≡◌, ◌++◌, drop, map}
use Rattle.prog_data.specs.Values.{seen}
use Rattle.goal_transfer.specs.Conditions.{join_each}
use Rattle.goal_transfer.proofs.lists.joined_each.Given as goal

abbrev pub invariant-loop-index : goal.invariant-loop-index
invariant-loop-index l = map seen l.made ++ join_each (map seen (drop l.index l.left)) (map seen (drop l.index l.right)) ≡ join_each (map seen l.left) (map seen l.right)
