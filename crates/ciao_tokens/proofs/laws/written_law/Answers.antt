use Rattle.ciao_tokens.proofs.WrittenTokens.{written_is_read}
use Rattle.ciao_tokens.proofs.laws.written_law.Goals as goal

pub returns : goal.returns
returns c = written_is_read
