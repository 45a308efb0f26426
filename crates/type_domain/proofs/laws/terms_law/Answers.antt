use Rattle.type_domain.proofs.InLaws.{keep_terms}
use Rattle.type_domain.proofs.laws.terms_law.Goals as goal

pub returns : goal.returns
returns c = λ g is. keep_terms g (c.relied_law.ensures g is)
