use Rattle.std.proofs.Common.{◌≡◌, ◌≤◌, ◌-◌, length}
use Rattle.name_order.specs.Relations.{order}
use Rattle.goal_transfer.specs.Tables.{unknown}
use Rattle.goal_transfer.specs.States.{values_seen}
use Rattle.goal_transfer.proofs.clauses.nothing_known.Given as goal

abbrev pub invariant-loop-all : goal.invariant-loop-all
invariant-loop-all l = (length l.made.items ≤ l.vars) × (values_seen (order l.rel) l.made.items ≡ unknown (order l.rel))

abbrev pub decreases-loop-all : goal.decreases-loop-all
decreases-loop-all l = l.vars - length l.made.items
