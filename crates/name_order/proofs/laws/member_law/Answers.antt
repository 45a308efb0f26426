use Rattle.name_order.proofs.RelationLaws.{member_law as proved}
use Rattle.name_order.proofs.laws.member_law.Goals as goal

pub returns : goal.returns
returns c = proved
