use Rattle.std.proofs.Common.{◌≡◌, ◌-◌, ◌++◌}
use Rattle.assertion_normal.specs.Conditions.{numbers_from}
use Rattle.assertion_normal.proofs.claims.numbers_between.Given as goal

abbrev pub invariant-loop-number : goal.invariant-loop-number
invariant-loop-number l = l.numbers ++ numbers_from l.number (l.to - l.number) ≡ numbers_from l.from (l.to - l.from)
