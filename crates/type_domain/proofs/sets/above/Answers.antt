use Rattle.std.proofs.Common.{◌∙◌}
use Rattle.type_domain.proofs.RowLaws.{below_row}
use Rattle.type_domain.proofs.sets.above.Goals as goal

pub returns : goal.returns
returns c = c.above.ensures ∙ below_row c.args.rel.now (c.order_law.ensures c.args.rel.now) (c.below_law.ensures c.args.rel.now) c.args.name
