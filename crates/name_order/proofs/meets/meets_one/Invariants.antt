use Rattle.std.proofs.Common.{◌≡◌, drop}
use Rattle.std.specs.List.{list_any}
use Rattle.name_order.specs.Relations.{leaf_meets}
use Rattle.name_order.specs.Tables.{has}
use Rattle.name_order.proofs.meets.meets_one.Given as goal

abbrev pub invariant-loop-right : goal.invariant-loop-right
invariant-loop-right l = list_any (leaf_meets (has l.meeting) l.left) (drop l.right-index l.rights) ≡ list_any (leaf_meets (has l.meeting) l.left) l.rights
