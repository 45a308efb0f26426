use Rattle.ciao_tokens.proofs.OneByteLaws.{solo_found}
use Rattle.ciao_tokens.proofs.symbols.solo.Goals as goal

pub returns-clause-finds : goal.returns-clause-finds
returns-clause-finds c = solo_found _ _ _ c.requires c.split.ensures.front c.split.ensures.behind
