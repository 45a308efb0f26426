use Rattle.std.proofs.Common.{map, ap, ◌∙◌}
use Rattle.name_order.specs.Relations.{order}
use Rattle.goal_transfer.specs.Tables.{row_seen, exits_of}
use Rattle.goal_transfer.proofs.StoredExits.{stored_none, stored_turn, stored_all}
use Rattle.goal_transfer.proofs.exits.narrowed_exits.Goals as goal

pub loop-pred-init : goal.loop-pred-init
loop-pred-init c = stored_none c.args.program.now (order c.args.rel.now) c.as_slice-row-items.result.now c.new-made.result c.new-made.ensures

pub loop-pred-preserved : goal.loop-pred-preserved
loop-pred-preserved c =
    stored_turn c.args.program.now (order c.args.rel.now) c.as_slice-row-items.result.now c.loop-pred.pred c.loop-pred.made c.push.new.self c.in_ok-row_exit.field-0 c.row-item.result c.loop-pred-test.true c.row-item.is c.in_ok-push.ensures.ok c.in_ok-row_exit.ensures c.loop-pred.invariant

pub returns : goal.returns
returns c =
    stored_all c.args.program.now (order c.args.rel.now) c.as_slice-row-items.result.now c.loop-pred.pred c.loop-pred.made c.loop-pred-test.false c.loop-pred.invariant
    ∙ ap (λ rows. exits_of c.args.program.now (order c.args.rel.now) (map row_seen rows)) c.as_slice-row-items.ensures
