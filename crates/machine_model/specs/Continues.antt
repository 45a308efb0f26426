-- What is left of a run, by what comes of it.
-- The headline does not rest on this file.
use Rattle.std.specs.Prelude.{◌≡◌, ℕ, ◌+◌, List, [], ◌∷◌, ◌++◌}
use Rattle.prog_data.specs.declared.programs.Program.{Program}
use Rattle.prog_data.specs.declared.events.Event.{Event}
use Rattle.prog_data.specs.declared.events.Event.TheVariants.{End}
use Rattle.prog_data.specs.declared.events.Ending.{Ending}
use Rattle.machine_model.specs.State.{Phase, Going, Over, Trace}
use Rattle.machine_model.specs.Tests.{Tests}
use Rattle.machine_model.specs.Run.{RunsFrom}

-- what is left of a run: events that steps have made and that are still to be told, and the phase after these steps
pub record Left : Type 0 where
  pub untold : List Event
  pub phase : Phase

-- a phase before which nothing is left to be told
abbrev pub at_phase : Phase → Left
at_phase p = record { untold = []; phase = p }

-- what is left after a step: what it tells is still to be told
abbrev pub left_after : Trace → Left
left_after t = record { untold = t.events; phase = t.phase }

module _ (what : Tests) (program : Program) (bound : ℕ) where
  -- after these events, the steps from a phase on give these events, this number of tests and this ending
  abbrev pub ContinuesAfter : List Event → Phase → List Event → ℕ → Ending → Type 0
  ContinuesAfter [] (Over e') events tests e = (events ≡ []) × (tests ≡ 0) × (e ≡ e')
  ContinuesAfter [] (Going s) events tests e = RunsFrom what program bound s events tests e
  ContinuesAfter (event ∷ untold) p events tests e = (rest : List Event) × (events ≡ event ∷ rest) × ContinuesAfter untold p rest tests e

  -- what is left of a run gives these events, this number of tests and this ending
  abbrev pub Continues : Left → List Event → ℕ → Ending → Type 0
  Continues left events tests e = ContinuesAfter left.untold left.phase events tests e

  -- the old gives these events with this number of tests, and then what the new gives, and nothing else
  pub record Leads (old : Left) (events : List Event) (made : ℕ) (new : Left) : Type 0 where
    pub forth : (rest : List Event) (tests : ℕ) (e : Ending) → Continues new rest tests e → Continues old (events ++ rest) (made + tests) e
    pub back : (all : List Event) (tests : ℕ) (e : Ending) → Continues old all tests e → (rest : List Event) × (more : ℕ) × (all ≡ events ++ rest) × (tests ≡ made + more) × Continues new rest more e

  -- the old gives no event but this ending, with this number of tests, and the new is over
  pub record EndsBy (old : Left) (made : ℕ) (ending : Ending) (new : Left) : Type 0 where
    pub over : new ≡ at_phase (Over ending)
    pub leads : Leads old [] made new

  -- what is told next of the old, with this number of tests, and what is left then
  abbrev pub IsNext : Left → Event → ℕ → Left → Type 0
  IsNext old (End e) made new = EndsBy old made e new
  IsNext old event made new = Leads old (event ∷ []) made new
