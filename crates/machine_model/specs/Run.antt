-- Whole runs.
use Rattle.std.specs.Prelude.{◌≡◌, ℕ, zero, suc, ◌+◌, Bool, List, [], ◌∷◌, ◌++◌, Some}
use Rattle.term_core.specs.declared.fixed.TheConstants.{NIL}
use Rattle.term_core.specs.declared.terms.Term.{Term, out-Term}
use Rattle.term_core.specs.Terms.{above}
use Rattle.term_core.specs.Shapes.{parts_of}
use Rattle.prog_data.specs.declared.goals.Goal as goal
use Rattle.prog_data.specs.declared.programs.Place.{Place}
use Rattle.prog_data.specs.declared.programs.Program.{Program}
use Rattle.prog_data.specs.declared.events.Event.{Event}
use Rattle.prog_data.specs.declared.events.Ending.{Ending}
use Rattle.prog_data.specs.Goals.{called_by}
use Rattle.machine_model.specs.State.{Does, Doing, State, Phase, Going, Over, Trace}
use Rattle.machine_model.specs.Tests.{Tests, every_condition, only_kept, kept_checks, told}
use Rattle.machine_model.specs.Step.{step, quietly}

-- no clause's place: line 0, of a file that does not matter, `[]`
abbrev pub nowhere : Place
nowhere = record { file = NIL; line = 0 }

-- the query's call alone, with no choice and no call made
abbrev pub start_of : ℕ → Term → State
start_of p query = record {
  calls = 0;
  fresh = above query;
  choices = [];
  current = Doing (record { items = Does (goal.Call p (parts_of (out-Term query))) 0 nowhere ∷ []; query = query });
}

-- two traces, one after the other
abbrev pub then_trace : Trace → Trace → Trace
then_trace a b = record { events = a.events ++ b.events; tests = a.tests + b.tests; phase = b.phase }

module _ (what : Tests) (program : Program) (bound : ℕ) where
  -- the trace of k steps, or of fewer where the run is over
  abbrev pub steps : ℕ → Phase → Trace
  steps zero p = quietly p
  steps (suc k) (Over e) = quietly (Over e)
  steps (suc k) (Going s) = let t = step what program bound s in then_trace t (steps k t.phase)

  -- after some number of steps the run from a state is over, with these events, number of tests and ending
  pub record RunsFrom (s : State) (events : List Event) (tests : ℕ) (e : Ending) : Type 0 where
    pub count : ℕ
    pub trace : steps count (Going s) ≡ record { events = events; tests = tests; phase = Over e }

  -- some number of steps leads from one state to another
  pub record Reaches (s s' : State) : Type 0 where
    pub count : ℕ
    pub phase : (steps count (Going s)).phase ≡ Going s'

-- the run of a query with these tests
pub record RunsBy (what : Tests) (program : Program) (query : Term) (bound : ℕ) (events : List Event) (tests : ℕ) (e : Ending) : Type 0 where
  pub pred : ℕ
  pub calls : called_by program query ≡ Some pred
  pub runs : RunsFrom what program bound (start_of pred query) events tests e

-- the run of a query that tests every condition; the number of tests is left open
abbrev pub Run : Program → Term → ℕ → List Event → Ending → Type 0
Run program query bound events e = (tests : ℕ) × RunsBy (every_condition program) program query bound events tests e

-- the run of a query that tests only some of the conditions; the number of tests is left open
abbrev pub KeptRun : (ℕ → Bool) → Program → Term → ℕ → List Event → Ending → Type 0
KeptRun keeps program query bound events e = (tests : ℕ) × RunsBy (only_kept keeps (every_condition program)) program query bound events tests e

-- the run of a query that tests the kept checks
abbrev pub CheckRun : Program → Term → ℕ → List Event → ℕ → Ending → Type 0
CheckRun program query bound events tests e = RunsBy (kept_checks program) program query bound events tests e

-- the run of a query that tests every condition, tells each that is broken and goes on; the number of tests is left open
abbrev pub RunAll : Program → Term → ℕ → List Event → Ending → Type 0
RunAll program query bound events e = (tests : ℕ) × RunsBy (told (every_condition program)) program query bound events tests e

-- the run of a query that tests the kept checks, tells each condition that is broken and goes on
abbrev pub CheckRunAll : Program → Term → ℕ → List Event → ℕ → Ending → Type 0
CheckRunAll program query bound events tests e = RunsBy (told (kept_checks program)) program query bound events tests e
