use Rattle.std.proofs.Common.{◌≡◌, drop, ◌++◌}
use Rattle.name_order.proofs.leaves.copied_grammar.Given as goal

abbrev pub invariant-loop-list : goal.invariant-loop-list
invariant-loop-list l = l.rules ++ drop l.list-index l.list-items ≡ l.list-items
