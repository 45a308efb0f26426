-- The laws that functions of this crate carry.
-- The headline does not rest on this file.
use Rattle.std.specs.Prelude.{◌≡◌, ◌≤◌, ◌↔◌, ℕ, ◌+◌, Bool, List, [], ◌∷◌, ◌++◌, filter, not, Some, true, false}
use Rattle.term_core.specs.declared.terms.Term.{Term, out-Term}
use Rattle.term_core.specs.Shapes.{parts_of}
use Rattle.prog_data.specs.declared.events.Event.{Event}
use Rattle.prog_data.specs.declared.events.Event.TheVariants as event
use Rattle.prog_data.specs.declared.events.Ending.{Ending}
use Rattle.prog_data.specs.declared.events.Ending.TheVariants as ending
use Rattle.prog_data.specs.declared.tables.Status.{Status}
use Rattle.prog_data.specs.declared.programs.Program.{Program}
use Rattle.machine_model.specs.State.{State, Phase, Going}
use Rattle.machine_model.specs.Tests.{Tests}
use Rattle.machine_model.specs.Step.{step}
use Rattle.machine_model.specs.Continues.{Left, at_phase, left_after, Continues, Leads}
use Rattle.machine_model.specs.Run.{RunsFrom, Reaches, Run, KeptRun, CheckRun, RunAll}
use Rattle.machine_model.specs.Erasure.{erase}
use Rattle.machine_model.specs.Points.{Sound}
use Rattle.machine_model.specs.Instrumented.{instrumented, is_kept}
use Rattle.prog_data.specs.Goals.{called_by, meets_entry}
use Rattle.prog_data.specs.Programs.{HasNoExit}

-- a run has one list of events, one number of tests and one ending
abbrev pub OneRun : Tests → Program → ℕ → Type 0
OneRun what program bound = (s : State) (es es' : List Event) (n n' : ℕ) (e e' : Ending) →
    RunsFrom what program bound s es n e → RunsFrom what program bound s es' n' e' → (es ≡ es') × (n ≡ n') × (e ≡ e')

-- in each state of a run the calls made are at most the bound
abbrev pub CallsBounded : Tests → Program → ℕ → Type 0
CallsBounded what program bound = (s s' : State) → s.calls ≤ bound → Reaches what program bound s s' → s'.calls ≤ bound

-- for each bound a run ends
abbrev pub Ends : Tests → Program → Type 0
Ends what program = (bound : ℕ) (s : State) → (es : List Event) × (n : ℕ) × (e : Ending) × RunsFrom what program bound s es n e

-- the ending is a violation
abbrev pub IsViolated : Ending → Type 0
IsViolated (ending.Violated c) = Unit {0}
IsViolated other = ⊥

-- the one run, if it breaks off, has the first events of the other; else they are the same
pub record SameUntil (BreaksOff : Ending → Type 0) (One Other : List Event → Ending → Type 0) : Type 0 where
  -- there is the one run exactly where there is the other
  pub both : ((es : List Event) × (e : Ending) × One es e) ↔ ((es : List Event) × (e : Ending) × Other es e)
  -- the events of the one begin those of the other
  pub begins : (es es' : List Event) (e e' : Ending) → One es e → Other es' e' → (rest : List Event) × (es ++ rest ≡ es')
  -- where the one does not break off, events and ending are the same
  pub same : (es es' : List Event) (e e' : Ending) → One es e → Other es' e' → (BreaksOff e → ⊥) → (es ≡ es') × (e ≡ e')

-- a program's run is the run of the erased program, or a violation breaks it off
abbrev pub Erases : Program → Type 0
Erases program = HasNoExit program → (query : Term) (bound : ℕ) → SameUntil IsViolated (Run program query bound) (Run (erase program) query bound)

-- the instrumented program without conditions, checks and Exit is the program without conditions
abbrev pub ErasesInstrumented : Program → List Status → Type 0
ErasesInstrumented program statuses = HasNoExit program → erase (instrumented program statuses) ≡ erase program

-- the ending is the violation of a condition that is not kept
abbrev pub BreaksOther : (ℕ → Bool) → Ending → Type 0
BreaksOther keeps (ending.Violated c) = keeps c ≡ false
BreaksOther keeps other = ⊥

-- a program's run is the run that tests only some conditions, or a violation of another condition breaks it off
abbrev pub Drops : Program → Type 0
Drops program = (keeps : ℕ → Bool) (query : Term) (bound : ℕ) → SameUntil (BreaksOther keeps) (Run program query bound) (KeptRun keeps program query bound)

-- where the statuses are sound, the run that tests only the conditions whose status is not checked is the run that tests all, for each query that meets an entry
abbrev pub Suffices : Program → List Status → Type 0
Suffices program statuses = Sound program statuses → (query : Term) (bound p : ℕ) (es : List Event) (e : Ending) →
    called_by program query ≡ Some p → meets_entry program p (parts_of (out-Term query)) ≡ true →
    Run program query bound es e ↔ KeptRun (is_kept statuses) program query bound es e

-- where the statuses are sound, the instrumented program's run by its checks has the events and the ending of the program's run, for each query that meets an entry
abbrev pub Simulates : Program → List Status → Type 0
Simulates program statuses = HasNoExit program → Sound program statuses → (query : Term) (bound p : ℕ) (es : List Event) (e : Ending) →
    called_by program query ≡ Some p → meets_entry program p (parts_of (out-Term query)) ≡ true →
    Run program query bound es e ↔ ((tests : ℕ) × CheckRun (instrumented program statuses) query bound es tests e)

-- whether an event is a broken condition
abbrev pub is_broken : Event → Bool
is_broken (event.Broken c) = true
is_broken other = false

-- events without the broken conditions among them
abbrev pub without_broken : List Event → List Event
without_broken es = filter (λ e. not (is_broken e)) es

-- the run that tells each broken condition and goes on is, without these events, the erased program's run
abbrev pub ToldErases : Program → Type 0
ToldErases program = HasNoExit program → (query : Term) (bound : ℕ) (es : List Event) (e : Ending) →
    RunAll program query bound es e → Run (erase program) query bound (without_broken es) e

-- what is left of a run: how it is told, step by step, and that it has one end
pub record LeftLaws (what : Tests) (program : Program) (bound : ℕ) : Type 0 where
  -- a step leads to what is left after it, with the tests that it makes
  pub steps : (s : State) → Leads what program bound (at_phase (Going s)) [] (step what program bound s).tests (left_after (step what program bound s))
  -- the first event that is still to be told is told next
  pub tells : (first : Event) (untold : List Event) (p : Phase) → Leads what program bound (record { untold = first ∷ untold; phase = p }) (first ∷ []) 0 (record { untold = untold; phase = p })
  -- what leads to what leads on, leads on
  pub goes_on : (old mid new : Left) (events more : List Event) (made further : ℕ) →
      Leads what program bound old events made mid → Leads what program bound mid more further new → Leads what program bound old (events ++ more) (made + further) new
  -- some events, a number of tests and an ending are left
  pub all : (left : Left) → (events : List Event) × (tests : ℕ) × (e : Ending) × Continues what program bound left events tests e
  -- and only these
  pub one : (left : Left) (events events' : List Event) (n n' : ℕ) (e e' : Ending) →
      Continues what program bound left events n e → Continues what program bound left events' n' e' → (events ≡ events') × (n ≡ n') × (e ≡ e')
