use Rattle.std.proofs.Common.{◌≡◌, ℕ, ◌<◌, true}
use Rattle.prog_data.specs.Values.{bit_at}
use Rattle.prop_check.proofs.sets.has_more.Given as goal

abbrev pub invariant-loop-name : goal.invariant-loop-name
invariant-loop-name l = (n : ℕ) → n < l.name → bit_at l.next n ≡ true → bit_at l.names n ≡ true
