use Rattle.std.proofs.Common.{sym, ◌∙◌}
use Rattle.ciao_tokens.proofs.NumberLaws.{number_open}
use Rattle.ciao_tokens.proofs.numbers.number.Goals as goal

pub returns-then-not-may_precede : goal.returns-then-not-may_precede
returns-then-not-may_precede c = number_open _ _ c.longest-written.ensures (sym c.may_precede.ensures ∙ c.if-not-may_precede.true)
