use Rattle.std.proofs.Common.{sym}
use Rattle.name_order.specs.Tables.{lacks}
use Rattle.name_order.proofs.RelationLaws.{unequal_pairs}
use Rattle.name_order.proofs.below.each_below.Goals as goal

pub returns-then-lows-highs : goal.returns-then-lows-highs
returns-then-lows-highs c = sym (unequal_pairs (lacks c.args.outside.now) c.args.lows.now c.args.highs.now c.if-lows-highs.true)
