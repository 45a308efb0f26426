-- Where a run is, by what the engine holds and what is in hand, and what it keeps.
-- The headline does not rest on this file.
use Rattle.std.specs.Prelude.{◌≡◌, ◌≤◌, ℕ, List, ◌∷◌, map, length, Option, None, Some, ⊤}
use Rattle.prog_data.specs.declared.goals.Goal.{Goal}
use Rattle.prog_data.specs.declared.goals.Goal as goal
use Rattle.prog_data.specs.declared.programs.Place.{Place}
use Rattle.prog_data.specs.Programs.{IsProgram}
use Rattle.machine_model.specs.State.{Does, Frame, Choice, Doing, Failed, State, Phase, Going, Over}
use Rattle.machine_model.specs.Leaner.{IsLeaner}
use Rattle.clause_index.specs.Selected.{program_keys}
use Rattle.term_heap.specs.Changes.{size_of, value_of, places}
use Rattle.engine_state.specs.declared.tasks.Row.{Row}
use Rattle.engine_state.specs.declared.engine.Engine as code
use Rattle.engine_state.specs.declared.stages.Setting.{Setting}
use Rattle.engine_state.specs.declared.stages.Stage as code_stage
use Rattle.engine_state.specs.declared.stages.Stage.TheVariants as stage
use Rattle.engine_state.specs.Engines.{Task, Runs, chain, Engine, frame_with, choices_of, as_state}
use Rattle.engine_state.specs.Stacks.{AreCounted}
use Rattle.engine_state.specs.Views.{as_links, as_points}
use Rattle.engine_state.specs.Moments.{IsCallPlaced, IsGoalPlaced, HasMoments}

-- the engine that the code's is
abbrev pub as_engine : code.Engine → Engine
as_engine e = record { calls = e.calls; changes = e.heap.changes; links = as_links e.notes.items e.links.items; points = as_points e.index e.notes.items e.points.items; query = e.query }

-- its choices
abbrev pub choices_at : code.Engine → List Choice
choices_at e = choices_of e.heap.changes (as_links e.notes.items e.links.items) e.query (as_points e.index e.notes.items e.points.items)

-- its tasks from a link on
abbrev pub tasks_at : code.Engine → ℕ → List Task
tasks_at e k = chain (as_links e.notes.items e.links.items) k

-- the frame of these tasks
abbrev pub frame_now : code.Engine → List Task → Frame
frame_now e tasks = frame_with (value_of e.heap.changes) tasks e.query

-- the state in which these tasks are to be done
abbrev pub doing : code.Engine → List Task → State
doing e tasks = as_state (as_engine e) (Doing (frame_now e tasks))

-- the state in which a goal is, before the tasks from a link on
abbrev pub goal_state : code.Engine → Goal → Setting → State
goal_state e g s = doing e (Runs g s.base s.height s.place ∷ tasks_at e s.rest)

-- the frame in which a call is due, with the terms of its places
abbrev pub call_frame : code.Engine → (pred : ℕ) → Row → (height : ℕ) → Place → (rest : ℕ) → Frame
call_frame e p args h place rest = let behind = frame_now e (tasks_at e rest) in
    record behind { items = Does (goal.Call p (map (value_of e.heap.changes) (places args.first args.count))) h place ∷ behind.items }

-- the phase of a run, where memory was not refused
abbrev pub phase_of : code.Engine → code_stage.Stage → Option Phase
phase_of e (stage.Doing k) = Some (Going (doing e (tasks_at e k)))
phase_of e (stage.Goal g s) = Some (Going (goal_state e g.now s))
phase_of e (stage.Calling p args h place rest) = Some (Going (as_state (as_engine e) (Doing (call_frame e p args h place rest))))
phase_of e stage.Failed = Some (Going (as_state (as_engine e) Failed))
phase_of e (stage.Over ending) = Some (Over ending)
phase_of e stage.Stuck = None

-- what an engine keeps: its program is in range and has this index, choice points count the choices below them, and links and choice points have their moments
pub record IsKept (e : code.Engine) : Type 0 where
  pub in_range : IsProgram e.program.now
  pub indexed : e.index ≡ program_keys e.program.now
  pub counted : AreCounted (as_points e.index e.notes.items e.points.items)
  pub moments : HasMoments e.program.now e.query e.heap.changes e.notes.items e.links.items e.points.items

-- an engine keeps that, this state of it has its heights and its variables in order, and so it is with what is in hand
pub record IsAt (e : code.Engine) (s : State) (InHand : Type 0) : Type 0 where
  pub kept : IsKept e
  pub own : IsLeaner e.program.now s s
  pub in_hand : InHand

-- a goal is due, and is placed
abbrev pub IsDue : code.Engine → Goal → Setting → Type 0
IsDue e g s = IsAt e (goal_state e g s) (IsGoalPlaced e.program.now (size_of e.heap.changes) g s.base × (s.rest ≤ length e.links.items))

-- what holds of an engine and what is in hand; nothing where the run is over, or memory was refused
abbrev pub IsWhole : code.Engine → code_stage.Stage → Type 0
IsWhole e (stage.Doing k) = IsAt e (doing e (tasks_at e k)) (k ≤ length e.links.items)
IsWhole e (stage.Goal g s) = IsDue e g.now s
IsWhole e (stage.Calling p args h place rest) = IsAt e (as_state (as_engine e) (Doing (call_frame e p args h place rest))) (IsCallPlaced e.program.now (size_of e.heap.changes) p args × (rest ≤ length e.links.items))
IsWhole e stage.Failed = IsAt e (as_state (as_engine e) Failed) ⊤
IsWhole e (stage.Over ending) = ⊤
IsWhole e stage.Stuck = ⊤
