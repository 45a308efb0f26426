use Rattle.regtype_grammar.proofs.LeastTerms.{types_have_least_terms}
use Rattle.regtype_grammar.proofs.grammars.least_terms_law.Goals as goal

pub returns : goal.returns
returns c = types_have_least_terms
