use Rattle.std.proofs.Common.{◌≡◌, drop}
use Rattle.std.specs.List.{list_any}
use Rattle.name_order.specs.Relations.{leaf_below}
use Rattle.name_order.specs.Tables.{lacks}
use Rattle.name_order.proofs.below.is_below_one.Given as goal

abbrev pub invariant-loop-high : goal.invariant-loop-high
invariant-loop-high l = list_any (leaf_below (lacks l.outside) l.low) (drop l.high-index l.highs) ≡ list_any (leaf_below (lacks l.outside) l.low) l.highs
