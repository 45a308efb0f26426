use Rattle.std.proofs.Common.{◌∙◌}
use Rattle.name_order.specs.Relations.{order}
use Rattle.type_domain.proofs.Orders.{member_is}
use Rattle.type_domain.proofs.lookups.is_inhabited.Goals as goal

pub returns : goal.returns
returns c = c.has_member.ensures.test ∙ member_is c.args.rel.now (c.member_law.ensures c.args.rel.now) (order c.args.rel.now) (c.order_law.ensures c.args.rel.now) c.args.name
