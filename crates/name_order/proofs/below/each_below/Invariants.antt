use Rattle.std.proofs.Common.{◌≡◌, length, drop}
use Rattle.name_order.specs.Relations.{each_pair}
use Rattle.name_order.specs.Tables.{lacks}
use Rattle.name_order.proofs.below.each_below.Given as goal

abbrev pub invariant-loop-index : goal.invariant-loop-index
invariant-loop-index l = record {
  same : length l.lows ≡ length l.highs;
  left : each_pair (lacks l.outside) (drop l.index l.lows) (drop l.index l.highs) ≡ each_pair (lacks l.outside) l.lows l.highs;
}
