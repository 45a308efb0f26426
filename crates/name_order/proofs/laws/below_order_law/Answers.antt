use Rattle.name_order.proofs.BelowLaws.{below_reflexive, below_transitive, empty_below}
use Rattle.name_order.proofs.laws.below_order_law.Goals as goal

pub returns-clause-reflexive : goal.returns-clause-reflexive
returns-clause-reflexive c = below_reflexive

pub returns-clause-transitive : goal.returns-clause-transitive
returns-clause-transitive c = below_transitive

pub returns-clause-empty : goal.returns-clause-empty
returns-clause-empty c = empty_below
