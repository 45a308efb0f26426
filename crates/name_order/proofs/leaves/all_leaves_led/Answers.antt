use Rattle.std.proofs.Common.{length, ◌++◌, ◌∷◌, [], ap, ◌∙◌}
use Rattle.name_order.specs.Tables.{has, leaves_led}
use Rattle.name_order.proofs.LeafLoops.{map_turn}
use Rattle.name_order.proofs.leaves.all_leaves_led.Goals as goal

pub loop-name-preserved : goal.loop-name-preserved
loop-name-preserved c =
    map_turn (leaves_led c.args.lists.now (has c.args.leads.now)) c.loop-name.all c.push.new.self c.loop-name.name (length c.args.lists.now) c.loop-name-test.true
    (c.in_ok-push.ensures.ok ∙ ap (λ x. c.loop-name.all ++ x ∷ []) c.in_ok-leaves_led.ensures)
    ∙ c.loop-name.invariant
