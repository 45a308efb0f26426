use Rattle.std.proofs.Common.{◌≡◌, drop, ◌++◌, filter}
use Rattle.prog_data.specs.Membership.{is_leaf}
use Rattle.name_order.proofs.leaves.push_leaves.Given as goal

abbrev pub invariant-loop-rule : goal.invariant-loop-rule
invariant-loop-rule l = l.leaves ++ filter is_leaf (drop l.rule-index l.rules) ≡ l.fn.leaves ++ filter is_leaf l.rules
