-- What functions of the engine do to it.
-- The headline does not rest on this file.
use Rattle.std.specs.Prelude.{◌≡◌, ◌≤◌, ◌<◌, ℕ, List, ◌∷◌, ◌++◌, length, if◌then◌else◌, Option, None, Some}
use Rattle.prog_data.specs.declared.programs.Program.{Program}
use Rattle.machine_model.specs.State.{Choice, Failed, State, Phase, Going, Over}
use Rattle.machine_model.specs.Tests.{Tests}
use Rattle.machine_model.specs.Step.{quietly}
use Rattle.machine_model.specs.Leaner.{IsLeaner}
use Rattle.engine_state.specs.declared.engine.Engine as code
use Rattle.engine_state.specs.declared.stages.Stage as code_stage
use Rattle.engine_state.specs.declared.stages.Setting.{Setting}
use Rattle.engine_state.specs.declared.tasks.Exit as code_exit
use Rattle.engine_state.specs.declared.tasks.Link as code_link
use Rattle.engine_state.specs.declared.points.Alternative as code_alternative
use Rattle.term_heap.specs.Changes.{size_of, value_of, undone}
use Rattle.engine_state.specs.Engines.{Task, Cuts, Leaves, alternative_choices, as_state}
use Rattle.engine_state.specs.Stacks.{width}
use Rattle.engine_state.specs.Views.{as_links, as_exit, as_task, as_alternative}
use Rattle.engine_state.specs.Notes.{IsAlternativeNoted}
use Rattle.engine_state.specs.Moments.{is_idle, IsWide, IsLinkPlaced, IsAlternativePlaced}
use Rattle.engine_state.specs.Moves.{Moves}
use Rattle.engine_state.specs.Stages.{as_engine, choices_at, tasks_at, phase_of, IsKept, IsWhole}

-- an engine became another one, with the same heap and these choices; the tasks from the links up to one on stay
pub record GoesTo (old : code.Engine) (rest : ℕ) (choices : List Choice) (new : code.Engine) : Type 0 where
  pub program : new.program.now ≡ old.program.now
  pub heap : new.heap ≡ old.heap
  pub calls : new.calls ≡ old.calls
  pub query : new.query ≡ old.query
  pub choices_are : choices_at new ≡ choices
  pub tasks : (j : ℕ) → j ≤ rest → tasks_at new j ≡ tasks_at old j
  pub kept : IsKept new
  pub there : rest ≤ length new.links.items

-- a task was put before the tasks from a link on, in a link with this number
pub record HasPushed (old : code.Engine) (task : Task) (rest k : ℕ) (new : code.Engine) : Type 0 where
  pub goes : GoesTo old rest (choices_at old) new
  pub first : tasks_at new k ≡ task ∷ tasks_at old rest
  pub first_there : k ≤ length new.links.items
  pub above : rest < k

-- the exit of a call was put before the tasks from a link on, unless it tests nothing
pub record HasExit (old : code.Engine) (exit : code_exit.Exit) (rest k : ℕ) (new : code.Engine) : Type 0 where
  pub goes : GoesTo old rest (choices_at old) new
  pub first : tasks_at new k ≡ (if is_idle exit then tasks_at old rest else Leaves (as_exit old.notes.items exit) ∷ tasks_at old rest)
  pub first_there : k ≤ length new.links.items

-- a link has the first of the tasks from a number on; what it names is there, and so is the link behind it
pub record IsFirst (e : code.Engine) (k : ℕ) (l : code_link.Link) : Type 0 where
  pub tasks : tasks_at e k ≡ as_task e.notes.items l.task ∷ tasks_at e l.next
  pub is_placed : IsLinkPlaced e.program.now (size_of e.heap.changes) (length e.notes.items) (length e.links.items) l

-- the newest choice was taken off, which an alternative stands for, and its moment was gone back to: the terms are those of that moment, and what the alternative names is there
pub record HasTaken (old : code.Engine) (a : code_alternative.Alternative) (new : code.Engine) : Type 0 where
  pub program : new.program.now ≡ old.program.now
  pub calls : new.calls ≡ old.calls
  pub query : new.query ≡ old.query
  pub past : (n : ℕ) × (new.heap.changes ≡ undone n old.heap.changes)
  pub choices : choices_at old ≡ alternative_choices (value_of new.heap.changes) (as_links new.notes.items new.links.items) new.query (as_alternative new.index new.notes.items a) ++ choices_at new
  pub single : width (as_alternative new.index new.notes.items a) ≤ 1
  pub kept : IsKept new
  pub placed : IsAlternativePlaced new.program.now (size_of new.heap.changes) (length new.links.items) a
  pub noted : IsAlternativeNoted (length new.notes.items) a
  pub wide : IsWide a

-- the state before a choice that an alternative stands for is gone on with, where the others are those of an engine
abbrev pub back_state : code.Engine → code_alternative.Alternative → State
back_state e a = record {
  calls = e.calls;
  fresh = size_of e.heap.changes;
  choices = alternative_choices (value_of e.heap.changes) (as_links e.notes.items e.links.items) e.query (as_alternative e.index e.notes.items a) ++ choices_at e;
  current = Failed;
}

-- failure went back to the newest choice, which an alternative stands for: the state then tells the same as the old one, and has its heights and its variables in order
pub record HasGoneBack (old : code.Engine) (a : code_alternative.Alternative) (new : code.Engine) : Type 0 where
  pub taken : HasTaken old a new
  pub same : IsLeaner new.program.now (as_state (as_engine old) Failed) (back_state new a)
  pub own : IsLeaner new.program.now (back_state new a) (back_state new a)

-- a goal is to be run once, with these settings: a cut to this height comes before the tasks from a link on
pub record IsOnce (old : code.Engine) (from : Setting) (now behind : ℕ) (to : Setting) (new : code.Engine) : Type 0 where
  pub base : to.base ≡ from.base
  pub place : to.place ≡ from.place
  pub height : to.height ≡ length (choices_at old)
  pub pushed : HasPushed old (Cuts now) behind to.rest new

-- a state leads to a phase without event and test
abbrev pub IsQuietMove : Tests → Program → (bound : ℕ) → State → Option Phase → Type 0
IsQuietMove what program bound s None = ⊥
IsQuietMove what program bound s (Some p) = Moves what program bound (Going s) (quietly p)

-- an engine moved from a state of it on, whatever is tested, without event and test
pub record HasMoved (old : code.Engine) (from : State) (new : code.Engine) (to : code_stage.Stage) : Type 0 where
  pub program : new.program.now ≡ old.program.now
  pub moves : (what : Tests) (bound : ℕ) → IsQuietMove what old.program.now bound from (phase_of new to)
  pub whole : IsWhole new to

-- a phase tells the same as a state
abbrev pub IsSamePhase : Program → State → Option Phase → Type 0
IsSamePhase program s None = ⊥
IsSamePhase program s (Some (Over e)) = ⊥
IsSamePhase program s (Some (Going s')) = IsLeaner program s s'

-- an engine became another one, whose phase tells the same as a state of the old one
pub record HasBecome (old : code.Engine) (from : State) (new : code.Engine) (to : code_stage.Stage) : Type 0 where
  pub program : new.program.now ≡ old.program.now
  pub same : IsSamePhase old.program.now from (phase_of new to)
  pub whole : IsWhole new to
