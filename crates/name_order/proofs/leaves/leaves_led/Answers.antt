use Rattle.std.proofs.Common.{length, ◌∙◌}
use Rattle.name_order.specs.Tables.{has, led_leaves}
use Rattle.name_order.proofs.LeafLoops.{flat_turn}
use Rattle.name_order.proofs.leaves.leaves_led.Goals as goal

pub loop-led-preserved : goal.loop-led-preserved
loop-led-preserved c = flat_turn (led_leaves c.args.lists.now (has c.args.leads.now) c.args.name) c.loop-led.leaves c.push_led.new.leaves c.loop-led.led (length c.args.lists.now) c.loop-led-test.true c.in_ok-push_led.ensures ∙ c.loop-led.invariant
