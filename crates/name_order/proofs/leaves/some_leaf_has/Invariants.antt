use Rattle.std.proofs.Common.{◌≡◌, drop}
use Rattle.std.specs.List.{list_any}
use Rattle.name_order.specs.Relations.{leaf_has}
use Rattle.name_order.specs.Tables.{has}
use Rattle.name_order.proofs.leaves.some_leaf_has.Given as goal

abbrev pub invariant-loop-leaf : goal.invariant-loop-leaf
invariant-loop-leaf l = list_any (leaf_has (λ n. has l.members (n, n))) (drop l.leaf-index l.leaves) ≡ list_any (leaf_has (λ n. has l.members (n, n))) l.leaves
