use Rattle.std.proofs.Common.{◌≡◌, ◌<◌, ◌^◌, ℕ, Bool, None, take}
use Rattle.machine_model.specs.Step.{finding}
use Rattle.engine_state.specs.Findings.{HasAdded}
use Rattle.engine_state.proofs.findings.test_all.Given as goal

abbrev pub invariant-loop-condition : goal.invariant-loop-condition
invariant-loop-condition g l =
    goal.F-IsAlwaysCallable g l.holds
    × ((test : ℕ → Bool) → ((c : ℕ) (b : Bool) → c < 2 ^ 64 → goal.F-post g l.holds c b → b ≡ test c) →
    HasAdded l.stops l.counts (λ c. finding (test c)) (take l.condition-index l.conditions) l.fn.told.items l.told.items l.tests None)
