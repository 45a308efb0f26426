use Rattle.std.proofs.Common.{◌≡◌, drop}
use Rattle.std.specs.List.{list_any}
use Rattle.goal_transfer.specs.Conditions.{is_term}
use Rattle.goal_transfer.proofs.properties.some_term.Given as goal

abbrev pub invariant-loop-leaf : goal.invariant-loop-leaf
invariant-loop-leaf l = list_any is_term (drop l.leaf-index l.leaves) ≡ list_any is_term l.leaves
