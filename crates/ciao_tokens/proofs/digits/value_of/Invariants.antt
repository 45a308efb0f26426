use Rattle.std.proofs.Common.{◌≡◌, ◌+◌, ◌*◌, ◌≤◌, ◌^◌, drop}
use Rattle.std.specs.Prelude.{fold}
use Rattle.std.specs.Char.{digit_value}
use Rattle.ciao_tokens.specs.Quotes.{value_of}
use Rattle.ciao_tokens.proofs.digits.value_of.Given as goal

abbrev pub invariant-loop-digit : goal.invariant-loop-digit
invariant-loop-digit l = (fold (λ n d. n * l.fn.base + digit_value d) l.value (drop l.digit-index l.digit-items) ≡ value_of l.fn.base l.digit-items) × (l.value ≤ 2 ^ 63) × (l.digit-items ≡ l.fn.digits)
