use Rattle.std.proofs.Common.{refl, arith}
use Rattle.name_order.proofs.BelowLaws.{basic_term, basic_gnd}
use Rattle.name_order.proofs.laws.basic_rules_law.Goals as goal

pub returns-clause-basic : goal.returns-clause-basic
returns-clause-basic c = record { basic = refl; few = omega arith; closed = refl }

pub returns-clause-term : goal.returns-clause-term
returns-clause-term c = basic_term

pub returns-clause-gnd : goal.returns-clause-gnd
returns-clause-gnd c = basic_gnd
