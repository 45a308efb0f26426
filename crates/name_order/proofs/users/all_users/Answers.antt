use Rattle.std.proofs.Common.{length, ◌++◌, ◌∷◌, [], ap, ◌∙◌}
use Rattle.name_order.specs.Tables.{users}
use Rattle.name_order.proofs.LeafLoops.{map_turn}
use Rattle.name_order.proofs.users.all_users.Goals as goal

pub loop-used-preserved : goal.loop-used-preserved
loop-used-preserved c =
    map_turn (users c.args.lists.now) c.loop-used.all c.push.new.self c.loop-used.used (length c.args.lists.now) c.loop-used-test.true
    (c.in_ok-push.ensures.ok ∙ ap (λ x. c.loop-used.all ++ x ∷ []) c.in_ok-users.ensures)
    ∙ c.loop-used.invariant
