use Rattle.name_order.proofs.BelowLaws.{basic_gnd}
use Rattle.name_order.proofs.MemberLaws.{belong_meet}
use Rattle.name_order.proofs.laws.belongs_meet_law.Goals as goal

pub returns-clause-program : goal.returns-clause-program
returns-clause-program c = λ g range. belong_meet g (basic_gnd g range)

pub returns-clause-gnd : goal.returns-clause-gnd
returns-clause-gnd c = belong_meet
