use Rattle.std.proofs.Common.{◌∙◌}
use Rattle.name_order.specs.Tables.{marking}
use Rattle.name_order.proofs.TableLaws.{grown_more}
use Rattle.name_order.proofs.marking.fill.Goals as goal

pub loop-kind-preserved : goal.loop-kind-preserved
loop-kind-preserved c =
    let before = c.loop-kind.invariant in
    (grown_more (marking c.args.kind c.args.lists.now) before.0 c.look_all.ensures.grown, c.look_all.ensures.size ∙ before.1, c.look_all.ensures.done_marked before.2)
