use Rattle.ciao_tokens.proofs.OneByteLaws.{mark_first}
use Rattle.ciao_tokens.proofs.symbols.mark.Goals as goal

pub returns-clause-finds : goal.returns-clause-finds
returns-clause-finds c = mark_first _ _ _ c.requires.first c.requires.class c.split.ensures.behind
