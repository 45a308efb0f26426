use Rattle.name_order.proofs.OrderLaws.{is_order as proved}
use Rattle.name_order.proofs.laws.order_law.Goals as goal

pub returns : goal.returns
returns c = proved
