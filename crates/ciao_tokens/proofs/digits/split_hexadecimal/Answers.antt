use Rattle.ciao_tokens.proofs.DigitLaws.{hexadecimal_ascii}
use Rattle.ciao_tokens.proofs.digits.split_hexadecimal.Goals as goal

pub split-requires-clause-ascii : goal.split-requires-clause-ascii
split-requires-clause-ascii c = hexadecimal_ascii _ _ c.hexadecimal_bytes.ensures.count
