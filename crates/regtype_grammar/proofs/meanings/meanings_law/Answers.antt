use Rattle.regtype_grammar.proofs.SeenLaws.{meanings_stay}
use Rattle.regtype_grammar.proofs.meanings.meanings_law.Goals as goal

pub returns : goal.returns
returns c = meanings_stay
