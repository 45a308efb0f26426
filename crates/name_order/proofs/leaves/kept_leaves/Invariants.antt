use Rattle.std.proofs.Common.{◌≡◌, drop, ◌++◌}
use Rattle.name_order.specs.Tables.{has, kept_leaves}
use Rattle.name_order.proofs.leaves.kept_leaves.Given as goal

abbrev pub invariant-loop-leaf : goal.invariant-loop-leaf
invariant-loop-leaf l = l.kept ++ kept_leaves (has l.members) (drop l.leaf-index l.leaves) ≡ kept_leaves (has l.members) l.leaves
