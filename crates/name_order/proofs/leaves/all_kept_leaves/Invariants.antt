use Rattle.std.proofs.Common.{◌≡◌, drop, map, ◌++◌}
use Rattle.name_order.specs.Tables.{has, kept_leaves}
use Rattle.name_order.proofs.leaves.all_kept_leaves.Given as goal

abbrev pub invariant-loop-leaves : goal.invariant-loop-leaves
invariant-loop-leaves l = l.all ++ map (kept_leaves (has l.members)) (drop l.leaves-index l.lists) ≡ map (kept_leaves (has l.members)) l.lists
