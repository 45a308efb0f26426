-- How many steps of a run are left: the measure of what goes on to its next event.
use Rattle.std.proofs.Common.{◌≡◌, ◌≤◌, ◌<◌, ℕ, zero, suc, ◌+◌, ◌-◌, List, refl, sym, ap, ◌∙◌, subst, arith}
use Rattle.prog_data.specs.declared.programs.Program.{Program}
use Rattle.prog_data.specs.declared.events.Ending.{Ending}
use Rattle.machine_model.specs.State.{State, Phase, Going, Over, Trace}
use Rattle.machine_model.specs.Tests.{Tests}
use Rattle.machine_model.specs.Step.{step}
use Rattle.machine_model.specs.Run.{RunsFrom}
use Rattle.machine_model.specs.Continues.{at_phase}
use Rattle.machine_model.specs.LeanerLaws.{TellTheSame}
use Rattle.machine_model.proofs.Continuing.{all_left}
use Rattle.engine_state.specs.Fewest.{fewest_steps, IsOverAfter}
use Rattle.engine_state.specs.Moves.{Moves, FewestLeft}
use Rattle.engine_state.proofs.FewestLaws.{fewest_falls}
use Rattle.engine_state.proofs.Composing.{same_over}

going_over : (s : State) (e : Ending) → Going s ≡ Over e → ⊥
going_over s e x = cc

module _ (what : Tests) (program : Program) (bound : ℕ) where
  abbrev fewest : ℕ → Phase → ℕ
  fewest = fewest_steps what program bound

  abbrev OverAfter : ℕ → Phase → Type 0
  OverAfter = IsOverAfter what program bound

  enough : (n : ℕ) (p : Phase) → OverAfter n p → OverAfter (fewest n p) p
  enough zero p is = is
  enough (suc n) (Over e) is = (e, refl)
  enough (suc n) (Going s) is = enough n (step what program bound s).phase is

  one_longer : (k : ℕ) (p : Phase) → OverAfter k p → OverAfter (suc k) p
  one_longer zero (Over e) is = is
  one_longer zero (Going s) is = absurd (going_over s is.0 is.1)
  one_longer (suc k) (Over e) is = is
  one_longer (suc k) (Going s) is = one_longer k (step what program bound s).phase is

  so_much_longer : (n k : ℕ) (p : Phase) → OverAfter k p → OverAfter (n + k) p
  so_much_longer zero k p is = let same : k ≡ 0 + k = omega arith in subst (λ m. OverAfter m p) same is
  so_much_longer (suc n) k p is = let same : suc (n + k) ≡ suc n + k = omega arith in subst (λ m. OverAfter m p) same (one_longer (n + k) p (so_much_longer n k p is))

  longer : (j k : ℕ) (p : Phase) → j ≤ k → OverAfter j p → OverAfter k p
  longer j k p le is = let same : (k - j) + j ≡ k = omega (arith, le) in subst (λ m. OverAfter m p) same (so_much_longer (k - j) j p is)

  leaner : (m n : ℕ) (s s' : State) → TellTheSame program s s' → OverAfter m (Going s) → OverAfter n (Going s') → fewest n (Going s') ≤ fewest m (Going s)
  leaner m n s s' same is is' =
      let found = same_over what program bound s s' same (fewest m (Going s)) (enough m (Going s) is) in
      let within = found.1 in
      let least : fewest n (Going s') ≤ found.0 = (fewest_falls what program bound).fewest found.0 n (Going s') found.2 is' in
      omega (arith, within, least)

  moved : (m n : ℕ) (p : Phase) (t : Trace) → Moves what program bound p t → OverAfter m p → OverAfter n t.phase → fewest n t.phase < fewest m p
  moved m n p t move is is' =
      let found = move.fewer (fewest m p) (enough m p is) in
      let within = found.1 in
      let least : fewest n t.phase ≤ found.0 = (fewest_falls what program bound).fewest found.0 n t.phase found.2 is' in
      omega (arith, within, least)

  -- some number of steps that ends a run
  pub some_over : (p : Phase) → (n : ℕ) × OverAfter n p
  some_over (Over e) = (0, (e, refl))
  some_over (Going s) =
      let run = all_left what program bound (at_phase (Going s)) in
      (run.3.count, (run.2, ap (λ t. t.phase) run.3.trace))

  pub fewest_left : FewestLeft what program bound
  fewest_left = record { enough = enough; longer = longer; leaner = leaner; moved = moved; some = some_over }

  -- how many steps are left
  pub steps_left : Phase → ℕ
  steps_left p = fewest (some_over p).0 p

  -- a move leaves fewer
  pub fewer_left : (p : Phase) (t : Trace) → Moves what program bound p t → steps_left t.phase < steps_left p
  unfolding steps_left
  fewer_left p t move = moved (some_over p).0 (some_over t.phase).0 p t move (some_over p).1 (some_over t.phase).1
