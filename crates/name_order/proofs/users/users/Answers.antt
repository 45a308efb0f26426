use Rattle.std.proofs.Common.{length, ◌∙◌}
use Rattle.name_order.specs.Tables.{user_if}
use Rattle.name_order.proofs.LeafLoops.{flat_turn}
use Rattle.name_order.proofs.users.users.Goals as goal

pub loop-name-preserved : goal.loop-name-preserved
loop-name-preserved c = flat_turn (user_if c.args.lists.now c.args.used) c.loop-name.found c.push_user.new.found c.loop-name.name (length c.args.lists.now) c.loop-name-test.true c.in_ok-push_user.ensures ∙ c.loop-name.invariant
