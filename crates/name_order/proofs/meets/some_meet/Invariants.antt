use Rattle.std.proofs.Common.{◌≡◌, drop}
use Rattle.std.specs.List.{list_any}
use Rattle.name_order.specs.Relations.{leaf_meets}
use Rattle.name_order.specs.Tables.{has}
use Rattle.name_order.proofs.meets.some_meet.Given as goal

abbrev pub invariant-loop-left : goal.invariant-loop-left
invariant-loop-left l = list_any (λ a. list_any (leaf_meets (has l.meeting) a) l.rights) (drop l.left-index l.lefts) ≡ list_any (λ a. list_any (leaf_meets (has l.meeting) a) l.rights) l.lefts
