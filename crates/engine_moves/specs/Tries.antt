-- A clause of a call that is tried over cells.
-- The headline does not rest on this file.
use Rattle.std.specs.Prelude.{◌≡◌, ◌≤◌, ◌+◌, ℕ, Bool, true, false, List, ◌∷◌, ◌++◌, length}
use Rattle.term_heap.specs.Changes.{Change, History, size_of, value_of, IsMade}
use Rattle.unify_core.specs.Heads.{AreNew}
use Rattle.prog_data.specs.declared.programs.Clause.{Clause}
use Rattle.prog_data.specs.declared.goals.Goal.{Goal}
use Rattle.prog_data.specs.Goals.{without_exit}
use Rattle.machine_model.specs.State.{State}
use Rattle.machine_model.specs.LeanerLaws.{before_try}
use Rattle.engine_state.specs.declared.engine.Engine as code
use Rattle.engine_state.specs.declared.points.Pending as code_pending
use Rattle.engine_state.specs.Engines.{Exit, Task, Leaves, call_with}
use Rattle.engine_state.specs.Views.{as_exit, as_pending}
use Rattle.engine_state.specs.Notes.{IsRowWithin}
use Rattle.engine_state.specs.Moments.{is_idle, IsCallPlaced, IsGoalPlaced}
use Rattle.engine_state.specs.Stages.{choices_at, tasks_at, doing, IsAt}
use Rattle.engine_state.specs.Turns.{GoesTo}
use Rattle.engine_state.specs.MoveLaws.{entered_tasks}
use Rattle.engine_moves.specs.declared.readings.Reading.{Reading}
use Rattle.engine_moves.specs.Readings.{tests_by}

-- a call's cells, notes and the link behind it are there
pub record IsPendingPlaced (e : code.Engine) (c : code_pending.Pending) : Type 0 where
  pub call : IsCallPlaced e.program.now (size_of e.heap.changes) c.exit.pred c.exit.args
  pub noted : IsRowWithin (length e.notes.items) c.exit.noted
  pub rest : c.rest ≤ length e.links.items

-- the state before the clause with a number of a call is tried
abbrev pub try_state : code.Engine → ℕ → code_pending.Pending → State
try_state e k c = before_try e.calls (size_of e.heap.changes) k (call_with (value_of e.heap.changes) (tasks_at e c.rest) e.query (as_pending e.notes.items c)) (choices_at e)

-- the clause with a number of a call is to be tried
abbrev pub IsToTry : code.Engine → ℕ → code_pending.Pending → Type 0
IsToTry e k c = IsAt e (try_state e k c) (IsPendingPlaced e c)

-- so many variables are places from a base on, and no term is another one
pub record HasVariables (old : History) (count base : ℕ) (new : History) : Type 0 where
  pub base_is : base ≡ size_of old.changes
  pub was_made : IsMade old.changes
  pub made : IsMade new.changes
  pub more : List Change
  pub is_new : new.changes ≡ more ++ old.changes
  pub values : value_of new.changes ≡ value_of old.changes
  pub cells : size_of new.changes ≡ size_of old.changes + count
  pub are_new : AreNew new.changes base

-- the tasks behind a body: the exit of its call, where there is one and it tests something, and then these
abbrev pub behind_body : (has_exit tests_nothing : Bool) → Exit → List Task → List Task
behind_body true false e tasks = Leaves e ∷ tasks
behind_body true true e tasks = tasks
behind_body false tests_nothing e tasks = tasks

-- the tasks behind a body that a reading goes through are those from a link on
pub record HasBehind (reading : Reading) (old : code.Engine) (body : Goal) (c : code_pending.Pending) (k : ℕ) (new : code.Engine) : Type 0 where
  pub goes : GoesTo old c.rest (choices_at old) new
  pub tasks : tasks_at new k ≡ behind_body ((tests_by old.program.now reading).exits body) (is_idle c.exit) (as_exit old.notes.items c.exit) (tasks_at old c.rest)
  pub there : k ≤ length new.links.items

-- the state in which a clause was entered, whose variables are places from a base on
abbrev pub entered_state : Reading → code.Engine → Clause → (base : ℕ) → code_pending.Pending → State
entered_state reading e clause base c = doing e (entered_tasks (tests_by e.program.now reading) clause base (as_pending e.notes.items c) (tasks_at e c.rest))

-- a clause was entered, and its body and its call are placed
abbrev pub IsEntered : Reading → code.Engine → Clause → (base : ℕ) → code_pending.Pending → Type 0
IsEntered reading e clause base c = IsAt e (entered_state reading e clause base c) (IsGoalPlaced e.program.now (size_of e.heap.changes) (without_exit clause.body) base × IsPendingPlaced e c)
