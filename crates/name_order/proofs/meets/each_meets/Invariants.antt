use Rattle.std.proofs.Common.{◌≡◌, length, drop}
use Rattle.name_order.specs.Relations.{each_pair}
use Rattle.name_order.specs.Tables.{has}
use Rattle.name_order.proofs.meets.each_meets.Given as goal

abbrev pub invariant-loop-index : goal.invariant-loop-index
invariant-loop-index l = record {
  same : length l.lefts ≡ length l.rights;
  left : each_pair (has l.meeting) (drop l.index l.lefts) (drop l.index l.rights) ≡ each_pair (has l.meeting) l.lefts l.rights;
}
