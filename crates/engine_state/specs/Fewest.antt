-- How many steps are left of a run, which is the measure of what goes on to its next event.
-- The headline does not rest on this file.
use Rattle.std.specs.Prelude.{◌≡◌, ◌≤◌, ℕ, zero, suc}
use Rattle.prog_data.specs.declared.programs.Program.{Program}
use Rattle.prog_data.specs.declared.events.Ending.{Ending}
use Rattle.machine_model.specs.State.{State, Phase, Going, Over}
use Rattle.machine_model.specs.Tests.{Tests}
use Rattle.machine_model.specs.Step.{step}
use Rattle.machine_model.specs.Run.{steps}

module _ (what : Tests) (program : Program) (bound : ℕ) where
  -- the least number of steps, of at most so many, after which the run from a phase is over
  abbrev pub fewest_steps : ℕ → Phase → ℕ
  fewest_steps zero p = 0
  fewest_steps (suc k) (Over e) = 0
  fewest_steps (suc k) (Going s) = suc (fewest_steps k (step what program bound s).phase)

  -- after so many steps the run from a phase is over
  abbrev pub IsOverAfter : ℕ → Phase → Type 0
  IsOverAfter k p = (e : Ending) × ((steps what program bound k p).phase ≡ Over e)

  -- numbers of steps after which a run is over give one least number, which falls by one at each step, and no number of steps that ends the run is below it
  pub record FewestFalls : Type 0 where
    pub one : (m n : ℕ) (p : Phase) → IsOverAfter m p → IsOverAfter n p → fewest_steps m p ≡ fewest_steps n p
    pub falls : (n : ℕ) (s : State) → IsOverAfter n (Going s) → IsOverAfter n (step what program bound s).phase × (fewest_steps n (Going s) ≡ suc (fewest_steps n (step what program bound s).phase))
    pub fewest : (k n : ℕ) (p : Phase) → IsOverAfter k p → IsOverAfter n p → fewest_steps n p ≤ k
