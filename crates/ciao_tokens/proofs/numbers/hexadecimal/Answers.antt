use Rattle.std.proofs.Common.{refl, sym, ◌∙◌}
use Rattle.ciao_tokens.proofs.NumberLaws.{hexadecimal_written, no_digits}
use Rattle.ciao_tokens.proofs.numbers.hexadecimal.Goals as goal

pub returns-then-is_empty : goal.returns-then-is_empty
returns-then-is_empty c = no_digits _ _ c.split_hexadecimal.ensures.front (sym c.is_empty.ensures ∙ c.if-is_empty.true)

pub returns : goal.returns
returns c = hexadecimal_written _ _ _ c.split_hexadecimal.ensures.front c.split_hexadecimal.ensures.behind (sym c.is_empty.ensures ∙ c.if-is_empty.false) refl c.value_of.ensures c.split_hexadecimal.ensures.utf8
