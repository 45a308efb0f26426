use Rattle.name_order.proofs.RelationLaws.{below_law as proved}
use Rattle.name_order.proofs.laws.below_law.Goals as goal

pub returns : goal.returns
returns c = proved
