use Rattle.std.proofs.Common.{◌≡◌, ◌-◌, length, ◌++◌}
use Rattle.name_order.specs.Relations.{names_from}
use Rattle.name_order.specs.Tables.{has, led_leaves, leaves_led}
use Rattle.std.specs.Prelude.{flat_map}
use Rattle.name_order.proofs.leaves.leaves_led.Given as goal

abbrev pub invariant-loop-led : goal.invariant-loop-led
invariant-loop-led l = l.leaves ++ flat_map (led_leaves l.lists (has l.leads) l.name) (names_from l.led (length l.lists - l.led)) ≡ leaves_led l.lists (has l.leads) l.name
