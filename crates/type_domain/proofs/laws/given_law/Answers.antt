use Rattle.type_domain.proofs.Given.{give_values}
use Rattle.type_domain.proofs.laws.given_law.Goals as goal

pub returns : goal.returns
returns c = λ g is. give_values g is (c.relied_law.ensures g is)
