use Rattle.name_order.specs.Tables.{marking}
use Rattle.name_order.proofs.TableLaws.{and_then, row_cover}
use Rattle.name_order.proofs.marking.look_row.Goals as goal

pub loop-second-preserved : goal.loop-second-preserved
loop-second-preserved c = and_then (marking c.args.kind c.args.lists.now) _ _ _ _ _ _ _ _ _ _ _ c.loop-second.invariant c.look-any.ensures (row_cover c.args.first c.loop-second.second)
