use Rattle.regtype_grammar.proofs.TypeMeaning.{types_have_their_terms}
use Rattle.regtype_grammar.proofs.grammars.types_law.Goals as goal

pub returns : goal.returns
returns c = types_have_their_terms
