use Rattle.ciao_tokens.proofs.WordLaws.{name_found}
use Rattle.ciao_tokens.proofs.words.name.Goals as goal

pub returns-clause-finds : goal.returns-clause-finds
returns-clause-finds c = name_found _ _ _ c.requires c.split_word.ensures.front c.split_word.ensures.behind
