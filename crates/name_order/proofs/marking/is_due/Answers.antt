use Rattle.name_order.proofs.TableLaws.{outside_due}
use Rattle.name_order.proofs.marking.is_due.Goals as goal

pub returns-in-Outside : goal.returns-in-Outside
returns-in-Outside c =
    outside_due c.args.kind c.args.lists.now c.args.marked.now c.args.first c.args.second c.rules_at-rules.result.now c.rules_at.result.now c.are_below.result c.requires c.in-Outside.is c.rules_at-rules.ensures c.rules_at.ensures c.are_below.ensures
