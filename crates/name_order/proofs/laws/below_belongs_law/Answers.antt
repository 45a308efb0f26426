use Rattle.name_order.proofs.BelowLaws.{basic_gnd}
use Rattle.name_order.proofs.MemberLaws.{below_belong}
use Rattle.name_order.proofs.laws.below_belongs_law.Goals as goal

pub returns-clause-program : goal.returns-clause-program
returns-clause-program c = λ g range. below_belong g (basic_gnd g range)

pub returns-clause-gnd : goal.returns-clause-gnd
returns-clause-gnd c = below_belong
