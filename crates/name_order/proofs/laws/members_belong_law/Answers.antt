use Rattle.name_order.proofs.MemberTerms.{members_belong}
use Rattle.name_order.proofs.laws.members_belong_law.Goals as goal

pub returns : goal.returns
returns c = members_belong
