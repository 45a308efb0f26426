-- What turns of an engine are made of.
use Rattle.std.proofs.Common.{◌≡◌, ◌≤◌, ℕ, List, [], length, Option, None, Some, refl, sym, subst}
use Rattle.prog_data.specs.declared.goals.Goal.{Goal}
use Rattle.prog_data.specs.declared.events.Event.{Event}
use Rattle.prog_data.specs.declared.programs.Program.{Program}
use Rattle.prog_data.specs.Programs.{IsProgram}
use Rattle.machine_model.specs.State.{Choice, Doing, State, Phase, Going}
use Rattle.machine_model.specs.Tests.{Tests}
use Rattle.machine_model.specs.Leaner.{IsLeaner}
use Rattle.term_heap.specs.Changes.{History, size_of, value_of}
use Rattle.engine_state.specs.declared.engine.Engine as code
use Rattle.engine_state.specs.declared.stages.Stage as code_stage
use Rattle.engine_state.specs.Engines.{Task, frame_with}
use Rattle.engine_state.specs.Moments.{IsGoalPlaced}
use Rattle.engine_state.specs.Stages.{choices_at, doing, IsKept}
use Rattle.engine_state.specs.Turns.{GoesTo}
use Rattle.engine_moves.specs.declared.readings.Reading.{Reading}
use Rattle.engine_moves.specs.Readings.{tests_by}
use Rattle.engine_moves.specs.Relied.{Relied}
use Rattle.engine_moves.specs.Turned.{IsMoveTo, HasTurned}

-- an engine that stays
pub stays : (e : code.Engine) (rest : ℕ) → IsKept e → rest ≤ length e.links.items → GoesTo e rest (choices_at e) e
stays e rest kept there = record { program = refl; heap = refl; calls = refl; query = refl; choices_are = refl; tasks = λ j le. refl; kept = kept; there = there }

-- the state after it went over into another one, with the same choices
pub state_after : (old new : code.Engine) (rest : ℕ) (tasks : List Task) → GoesTo old rest (choices_at old) new → doing new tasks ≡ doing old tasks
state_after old new rest tasks g = λ i. record {
  calls = g.calls i;
  fresh = size_of ((g.heap i).changes);
  choices = g.choices_are i;
  current = Doing (frame_with (value_of ((g.heap i).changes)) tasks (g.query i));
}

-- the heap and the program stay
pub placed_after : (old new : code.Engine) (rest : ℕ) (cs : List Choice) (g : Goal) (base : ℕ) → GoesTo old rest cs new → IsGoalPlaced old.program.now (size_of old.heap.changes) g base → IsGoalPlaced new.program.now (size_of new.heap.changes) g base
placed_after old new rest cs g base goes is =
    subst (λ h. IsGoalPlaced new.program.now (size_of h.changes) g base) (sym goes.heap) (subst (λ p. IsGoalPlaced p (size_of old.heap.changes) g base) (sym goes.program) is)

-- first to a leaner state, and then a move
pub moved_before : Relied → (what : Tests) (program : Program) (bound : ℕ) (s s' : State) (events : List Event) (tests : ℕ) (p : Option Phase) → IsProgram program → IsLeaner program s s' → IsMoveTo what program bound s' events tests p → IsMoveTo what program bound s events tests p
moved_before law what program bound s s' events tests None is same move = move
moved_before law what program bound s s' events tests (Some p) is same move = (law.leaners what program bound is).before s s' (record { events = events; tests = tests; phase = p }) same move

-- an engine whose heap had gone on before
pub from_heap : (reading : Reading) (bound : ℕ) (old : code.Engine) (heap : History) (from : State) (events : List Event) (counted : ℕ) (new : code.Engine) (to : code_stage.Stage) → HasTurned reading bound (record old { heap = heap }) from events counted new to →
    HasTurned reading bound old from events counted new to
from_heap reading bound old heap from events counted new to h = record { program = h.program; tests = h.tests; counted_are = h.counted_are; moves = h.moves; whole = h.whole }
