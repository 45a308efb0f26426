use Rattle.name_order.proofs.RelationLaws.{member_least, below_greatest, meets_least}
use Rattle.name_order.proofs.laws.fixpoints_law.Goals as goal

pub returns : goal.returns
returns c = λ g. record { members = member_least g; below = below_greatest g; meets = meets_least g }
