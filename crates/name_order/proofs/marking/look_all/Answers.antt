use Rattle.std.proofs.Common.{length}
use Rattle.name_order.specs.Tables.{marking}
use Rattle.name_order.proofs.TableLaws.{and_then, all_cover}
use Rattle.name_order.proofs.marking.look_all.Goals as goal

pub loop-step-preserved : goal.loop-step-preserved
loop-step-preserved c =
    and_then (marking c.args.kind c.args.lists.now) _ _ _ _ _ _ _ _ _ _ _ c.loop-step.invariant c.look_row-any.ensures
    (all_cover c.args.forward (length c.args.lists.now) c.loop-step.step c.name_after-first.result c.loop-step-test.true c.name_after-first.ensures)
