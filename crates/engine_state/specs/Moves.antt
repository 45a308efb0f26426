-- What a move of the engine promises of a run.
-- The headline does not rest on this file.
use Rattle.std.specs.Prelude.{◌≡◌, ◌≤◌, ◌<◌, ℕ, suc, List, []}
use Rattle.prog_data.specs.declared.programs.Program.{Program}
use Rattle.prog_data.specs.declared.events.Event.{Event}
use Rattle.machine_model.specs.State.{State, Phase, Going, Trace}
use Rattle.machine_model.specs.Tests.{Tests}
use Rattle.machine_model.specs.Step.{step}
use Rattle.machine_model.specs.Run.{steps, then_trace}
use Rattle.machine_model.specs.Continues.{at_phase, left_after, Leads}
use Rattle.machine_model.specs.Leaner.{IsLeaner}
use Rattle.machine_model.specs.LeanerLaws.{IsDone, LeanerStates, TellTheSame}
use Rattle.engine_state.specs.Fewest.{fewest_steps, IsOverAfter}

module _ (what : Tests) (program : Program) (bound : ℕ) where
  -- a step from a state and so many more make this trace
  pub record Makes (s : State) (t : Trace) : Type 0 where
    pub more : ℕ
    pub trace : steps what program bound (suc more) (Going s) ≡ t

  -- a phase leads to what this trace tells, with its tests, and to its phase; fewer steps than end the old run end the new one
  pub record Moves (old : Phase) (t : Trace) : Type 0 where
    pub leads : Leads what program bound (at_phase old) [] t.tests (left_after t)
    pub fewer : (k : ℕ) → IsOverAfter what program bound k old → (j : ℕ) × (j < k) × IsOverAfter what program bound j t.phase

  -- how moves are made and put together
  pub record MovesCompose : Type 0 where
    -- one step
    pub one_step : (s : State) (t : Trace) → step what program bound s ≡ t → Makes s t
    -- steps of the semantics
    pub made : (s : State) (t : Trace) → Makes s t → Moves (Going s) t
    -- two moves in a row
    pub onward : (p : Phase) (t u : Trace) → Moves p t → Moves t.phase u → Moves p (then_trace t u)
    -- a move, and then to a state that tells the same
    pub after : (p : Phase) (events : List Event) (tests : ℕ) (s s' : State) → Moves p (record { events = events; tests = tests; phase = Going s }) → TellTheSame program s s' →
        Moves p (record { events = events; tests = tests; phase = Going s' })
    -- first to a state that tells the same, and then a move
    pub before : (s s' : State) (t : Trace) → TellTheSame program s s' → Moves (Going s') t → Moves (Going s) t
    -- steps of the semantics keep that a state is its own leaner one
    pub own : LeanerStates program → (s s' : State) (t : Trace) → IsLeaner program s s → Makes s t → t.phase ≡ Going s' → IsDone s'.current → IsLeaner program s' s'

  -- what the least number of steps is
  pub record FewestLeft : Type 0 where
    -- the run is over after it
    pub enough : (n : ℕ) (p : Phase) → IsOverAfter what program bound n p → IsOverAfter what program bound (fewest_steps what program bound n p) p
    -- and after more
    pub longer : (j k : ℕ) (p : Phase) → j ≤ k → IsOverAfter what program bound j p → IsOverAfter what program bound k p
    -- a state that tells the same has no more steps left
    pub leaner : (m n : ℕ) (s s' : State) → TellTheSame program s s' → IsOverAfter what program bound m (Going s) → IsOverAfter what program bound n (Going s') →
        fewest_steps what program bound n (Going s') ≤ fewest_steps what program bound m (Going s)
    -- a move leaves fewer
    pub moved : (m n : ℕ) (p : Phase) (t : Trace) → Moves p t → IsOverAfter what program bound m p → IsOverAfter what program bound n t.phase → fewest_steps what program bound n t.phase < fewest_steps what program bound m p
    -- some number of steps ends each run
    pub some : (p : Phase) → (n : ℕ) × IsOverAfter what program bound n p
