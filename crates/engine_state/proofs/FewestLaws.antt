-- The least number of steps after which a run is over.
use Rattle.std.proofs.Common.{◌≡◌, ◌≤◌, ℕ, zero, suc, refl, sym, ap, ◌∙◌, arith}
use Rattle.prog_data.specs.declared.programs.Program.{Program}
use Rattle.prog_data.specs.declared.events.Ending.{Ending}
use Rattle.machine_model.specs.State.{State, Phase, Going, Over}
use Rattle.machine_model.specs.Tests.{Tests}
use Rattle.machine_model.specs.Step.{step}
use Rattle.engine_state.specs.Fewest.{fewest_steps, IsOverAfter, FewestFalls}

going_over : (s : State) (e : Ending) → Going s ≡ Over e → ⊥
going_over s e x = cc

module _ (what : Tests) (program : Program) (bound : ℕ) where
  abbrev fewest : ℕ → Phase → ℕ
  fewest = fewest_steps what program bound

  abbrev OverAfter : ℕ → Phase → Type 0
  OverAfter = IsOverAfter what program bound

  none_left : (n : ℕ) (e : Ending) → fewest n (Over e) ≡ 0
  none_left zero e = refl
  none_left (suc n) e = refl

  one_more : (k : ℕ) (p : Phase) → OverAfter k p → OverAfter (suc k) p
  one_more zero (Over e) is = is
  one_more zero (Going s) is = absurd (going_over s is.0 is.1)
  one_more (suc k) (Over e) is = is
  one_more (suc k) (Going s) is = one_more k (step what program bound s).phase is

  one_least : (m n : ℕ) (p : Phase) → OverAfter m p → OverAfter n p → fewest m p ≡ fewest n p
  one_least m n (Over e) is is' = none_left m e ∙ sym (none_left n e)
  one_least zero n (Going s) is is' = absurd (going_over s is.0 is.1)
  one_least (suc m) zero (Going s) is is' = absurd (going_over s is'.0 is'.1)
  one_least (suc m) (suc n) (Going s) is is' = ap suc (one_least m n (step what program bound s).phase is is')

  falls : (n : ℕ) (s : State) → OverAfter n (Going s) → OverAfter n (step what program bound s).phase × (fewest n (Going s) ≡ suc (fewest n (step what program bound s).phase))
  falls zero s is = absurd (going_over s is.0 is.1)
  falls (suc n) s is =
      let next : Phase = (step what program bound s).phase in
      let further : OverAfter (suc n) next = one_more n next is in
      (further, ap suc (one_least n (suc n) next is further))

  least : (k n : ℕ) (p : Phase) → OverAfter k p → OverAfter n p → fewest n p ≤ k
  least k n (Over e) is is' = omega (arith, none_left n e)
  least zero n (Going s) is is' = absurd (going_over s is.0 is.1)
  least (suc k) zero (Going s) is is' = absurd (going_over s is'.0 is'.1)
  least (suc k) (suc n) (Going s) is is' = omega (arith, least k n (step what program bound s).phase is is')

  pub fewest_falls : FewestFalls what program bound
  fewest_falls = record { one = one_least; falls = falls; fewest = least }
