use Rattle.ciao_tokens.proofs.InOrder.{in_order}
use Rattle.ciao_tokens.proofs.laws.order_law.Goals as goal

pub returns : goal.returns
returns c = in_order
