use Rattle.ciao_tokens.proofs.OneByteLaws.{blank_first}
use Rattle.ciao_tokens.proofs.layout.blank.Goals as goal

pub returns-clause-finds : goal.returns-clause-finds
returns-clause-finds c = blank_first _ _ c.requires c.split.ensures.behind
