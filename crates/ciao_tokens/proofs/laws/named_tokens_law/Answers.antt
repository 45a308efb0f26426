use Rattle.ciao_tokens.proofs.NamedTokens.{tokens_named}
use Rattle.ciao_tokens.proofs.laws.named_tokens_law.Goals as goal

pub returns : goal.returns
returns c = tokens_named
