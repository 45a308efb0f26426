use Rattle.type_domain.proofs.LeqLaws.{ordered}
use Rattle.type_domain.proofs.laws.order_law.Goals as goal

pub returns : goal.returns
returns c = ordered
