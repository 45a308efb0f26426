use Rattle.type_domain.proofs.Given.{names_mono}
use Rattle.type_domain.proofs.LeqLaws.{monotone}
use Rattle.type_domain.proofs.laws.monotone_law.Goals as goal

pub returns-clause-values : goal.returns-clause-values
returns-clause-values c = monotone

pub returns-clause-names : goal.returns-clause-names
returns-clause-names c = λ g. names_mono g (c.order_law.ensures g) (c.below_order_law.ensures.transitive g)
