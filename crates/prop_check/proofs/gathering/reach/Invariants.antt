use Rattle.std.proofs.Common.{◌≡◌, ℕ, true}
use Rattle.prog_data.specs.Values.{bit_at}
use Rattle.prop_check.specs.OneOf.{AreLed}
use Rattle.prop_check.proofs.SetLaws.{absent}
use Rattle.prop_check.proofs.gathering.reach.Given as goal

abbrev pub invariant-rounds : goal.invariant-rounds
invariant-rounds l = record {
  asked : (n : ℕ) → bit_at l.asked n ≡ true → bit_at l.names n ≡ true;
  led : AreLed l.grammar (bit_at l.asked) (bit_at l.names);
}

abbrev pub decreases-rounds : goal.decreases-rounds
decreases-rounds l = absent (bit_at l.names) 512
