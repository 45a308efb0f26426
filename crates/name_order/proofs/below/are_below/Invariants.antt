use Rattle.std.proofs.Common.{◌≡◌, drop}
use Rattle.std.specs.List.{list_any, list_all}
use Rattle.name_order.specs.Relations.{leaf_below}
use Rattle.name_order.specs.Tables.{lacks}
use Rattle.name_order.proofs.below.are_below.Given as goal

abbrev pub invariant-loop-low : goal.invariant-loop-low
invariant-loop-low l = list_all (λ a. list_any (leaf_below (lacks l.outside) a) l.highs) (drop l.low-index l.lows) ≡ list_all (λ a. list_any (leaf_below (lacks l.outside) a) l.highs) l.lows
