use Rattle.ciao_tokens.proofs.DigitLaws.{decimal_ascii}
use Rattle.ciao_tokens.proofs.digits.split_decimal.Goals as goal

pub split-requires-clause-ascii : goal.split-requires-clause-ascii
split-requires-clause-ascii c = decimal_ascii _ _ c.decimal_bytes.ensures.count
