use Rattle.std.proofs.Common.{◌≡◌, ℕ, ◌&&◌}
use Rattle.std.specs.Prelude.{option_copied}
use Rattle.prog_data.specs.Values.{bit_at}
use Rattle.prop_check.specs.Sets.{head_holds}
use Rattle.prop_check.specs.Chains.{sets_behind}
use Rattle.prop_check.proofs.RoundLaws.{holds_within}
use Rattle.prop_check.proofs.settling.settle.Given as goal

abbrev pub invariant-loop-step : goal.invariant-loop-step
invariant-loop-step l = (n : ℕ) → bit_at l.found n ≡ (bit_at l.reach n && holds_within l.grammar (head_holds (sets_behind (option_copied l.behind)) l.head) l._step n)
