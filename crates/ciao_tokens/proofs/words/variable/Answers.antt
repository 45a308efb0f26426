use Rattle.ciao_tokens.proofs.WordLaws.{variable_found}
use Rattle.ciao_tokens.proofs.words.variable.Goals as goal

pub returns-clause-finds : goal.returns-clause-finds
returns-clause-finds c = variable_found _ _ _ c.requires c.split_word.ensures.front c.split_word.ensures.behind
