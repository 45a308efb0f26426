use Rattle.name_order.proofs.RelationLaws.{meets_law as proved}
use Rattle.name_order.proofs.laws.meets_law.Goals as goal

pub returns : goal.returns
returns c = proved
