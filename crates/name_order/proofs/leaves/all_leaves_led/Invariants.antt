use Rattle.std.proofs.Common.{◌≡◌, ◌-◌, length, map, ◌++◌}
use Rattle.name_order.specs.Relations.{names_from}
use Rattle.name_order.specs.Tables.{has, leaves_led, all_leaves_led}
use Rattle.name_order.proofs.leaves.all_leaves_led.Given as goal

abbrev pub invariant-loop-name : goal.invariant-loop-name
invariant-loop-name l = l.all ++ map (leaves_led l.lists (has l.leads)) (names_from l.name (length l.lists - l.name)) ≡ all_leaves_led l.lists (has l.leads)
