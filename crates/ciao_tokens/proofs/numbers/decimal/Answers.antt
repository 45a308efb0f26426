use Rattle.std.proofs.Common.{refl}
use Rattle.ciao_tokens.proofs.NumberLaws.{decimal_written}
use Rattle.ciao_tokens.proofs.numbers.decimal.Goals as goal

pub returns : goal.returns
returns c = decimal_written _ _ _ c.requires.begins c.requires.only c.split_decimal.ensures.front c.split_decimal.ensures.behind refl c.value_of.ensures c.split_decimal.ensures.utf8
