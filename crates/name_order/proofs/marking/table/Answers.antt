use Rattle.std.proofs.Common.{length}
use Rattle.name_order.specs.Tables.{marking}
use Rattle.name_order.proofs.TableLaws.{is_least}
use Rattle.name_order.proofs.marking.table.Goals as goal

pub returns : goal.returns
returns c = is_least (marking c.args.kind c.args.lists.now) (length c.args.lists.now) c.in_ok-marked.marked c.fill.new.marked c.in_ok-marked.ensures.size c.in_ok-marked.ensures.none c.fill.ensures.grown c.fill.ensures.closed
