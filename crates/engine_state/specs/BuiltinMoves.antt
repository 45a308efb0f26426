-- What a built-in does whose arguments are in cells.
-- The headline does not rest on this file.
use Rattle.std.specs.Prelude.{◌≡◌, ◌≤◌, ◌<◌, ◌+◌, ℕ, ℤ, List, [], ◌∷◌, map, length, Option, None, Some}
use Rattle.term_core.specs.declared.terms.Term.{Term}
use Rattle.term_core.specs.declared.terms.Term as term
use Rattle.prog_data.specs.declared.goals.Builtin.{Builtin}
use Rattle.prog_data.specs.declared.goals.Builtin.TheVariants as builtin
use Rattle.prog_data.specs.declared.goals.Goal as goal
use Rattle.prog_data.specs.declared.programs.Program.{Program}
use Rattle.prog_data.specs.declared.events.ArithKind.{ArithKind}
use Rattle.prog_data.specs.declared.events.Ending.TheVariants as ending
use Rattle.prog_data.specs.declared.events.Event.{Event}
use Rattle.prog_data.specs.declared.events.Event.TheVariants.{Out}
use Rattle.prog_data.specs.Ranges.{arity_of}
use Rattle.machine_model.specs.State.{State, Phase, Going}
use Rattle.machine_model.specs.Tests.{Tests}
use Rattle.machine_model.specs.Step.{Effect, Succeeds, Fails, Writes, Equates, Becomes, Faults, effect}
use Rattle.machine_model.specs.Leaner.{IsLeaner}
use Rattle.machine_model.specs.LeanerLaws.{before_goal}
use Rattle.term_heap.specs.Changes.{History, size_of, value_of, places, IsMade}
use Rattle.term_heap.specs.Loads.{HasLoaded}
use Rattle.unify_core.specs.Unifies.{HasUnified, IsLater}
use Rattle.unify_core.specs.declared.unifying.Unified.{Unified}
use Rattle.unify_core.specs.declared.unifying.Unified.TheVariants.{Same, Clash, Cyclic}
use Rattle.engine_state.specs.declared.tasks.Row.{Row}
use Rattle.engine_state.specs.declared.engine.Engine as code
use Rattle.engine_state.specs.declared.stages.Setting.{Setting}
use Rattle.engine_state.specs.declared.stages.Stage as code_stage
use Rattle.engine_state.specs.declared.stages.Stage.TheVariants as stage
use Rattle.engine_state.specs.Moves.{Moves}
use Rattle.engine_state.specs.StepsMade.{effect_of}
use Rattle.engine_state.specs.Stages.{choices_at, tasks_at, frame_now, phase_of, IsKept, IsWhole}

-- the terms of a row of places
abbrev pub terms_at : code.Engine → Row → List Term
terms_at e args = map (value_of e.heap.changes) (places args.first args.count)

-- the state in which a built-in is due, with the terms of its places as arguments
abbrev pub builtin_state : code.Engine → Builtin → Row → Setting → State
builtin_state e b args s = before_goal e.calls (size_of e.heap.changes) (choices_at e) (goal.Builtin b (terms_at e args)) s.height s.place (frame_now e (tasks_at e s.rest))

-- what it does there
abbrev pub effect_at : code.Engine → Builtin → Row → Effect
effect_at e b args = effect_of e.program.now b (terms_at e args)

-- a built-in is due whose arguments are there, as many as it takes; this state of the engine has its heights and its variables in order
pub record IsReady (e : code.Engine) (b : Builtin) (args : Row) (s : Setting) : Type 0 where
  pub kept : IsKept e
  pub own : IsLeaner e.program.now (builtin_state e b args s) (builtin_state e b args s)
  pub enough : arity_of b ≤ args.count
  pub within : args.first + args.count ≤ size_of e.heap.changes
  pub there : s.rest ≤ length e.links.items

-- the arguments of a built-in were put into cells: its state then tells the same as this one
pub record HasArguments (old : code.Engine) (from : State) (b : Builtin) (args : Row) (s : Setting) (new : code.Engine) : Type 0 where
  pub program : new.program.now ≡ old.program.now
  pub same : IsLeaner old.program.now from (builtin_state new b args s)
  pub ready : IsReady new b args s

-- a state leads to a phase with these events, and without test
abbrev pub IsUntestedMove : Tests → Program → (bound : ℕ) → State → List Event → Option Phase → Type 0
IsUntestedMove what program bound s events None = ⊥
IsUntestedMove what program bound s events (Some p) = Moves what program bound (Going s) (record { events = events; tests = 0; phase = p })

-- an engine moved from a state of it on, whatever is tested, with these events, and without test
pub record HasDone (old : code.Engine) (from : State) (events : List Event) (new : code.Engine) (to : code_stage.Stage) : Type 0 where
  pub program : new.program.now ≡ old.program.now
  pub moves : (what : Tests) (bound : ℕ) → IsUntestedMove what old.program.now bound from events (phase_of new to)
  pub whole : IsWhole new to

-- where a run is after two places were to become the same
abbrev pub equated_stage : Setting → Unified → code_stage.Stage
equated_stage s Same = stage.Doing s.rest
equated_stage s Clash = stage.Failed
equated_stage s Cyclic = stage.Over (ending.Cyclic s.place)

-- and after it was tried whether they can
abbrev pub refuted_stage : Setting → Unified → code_stage.Stage
refuted_stage s Same = stage.Failed
refuted_stage s Clash = stage.Doing s.rest
refuted_stage s Cyclic = stage.Over (ending.Cyclic s.place)

-- the engine with another heap
abbrev pub with_heap : code.Engine → History → code.Engine
with_heap e heap = record e { heap = heap }

-- two places of an engine were unified, which changed its heap alone
pub record AreUnified (e : code.Engine) (x y : ℕ) (u : Unified) (heap : History) : Type 0 where
  pub made : IsMade e.heap.changes
  pub unified : HasUnified e.heap.changes x y u heap.changes
  pub later : IsLater e.heap heap
  pub still_made : IsMade heap.changes

-- what a built-in does that is due, by its effect
pub record BuiltinsMove : Type 0 where
  -- the effect is that of the terms of the first two places
  pub effects : (e : code.Engine) (b : Builtin) (args : Row) → arity_of b ≤ args.count → effect_at e b args ≡ effect e.program.now b (value_of e.heap.changes args.first) (value_of e.heap.changes (args.first + 1))
  pub succeeds : (e : code.Engine) (b : Builtin) (args : Row) (s : Setting) → IsReady e b args s → effect_at e b args ≡ Succeeds → HasDone e (builtin_state e b args s) [] e (stage.Doing s.rest)
  pub fails : (e : code.Engine) (b : Builtin) (args : Row) (s : Setting) → IsReady e b args s → effect_at e b args ≡ Fails → HasDone e (builtin_state e b args s) [] e stage.Failed
  pub faults : (e : code.Engine) (b : Builtin) (args : Row) (s : Setting) (kind : ArithKind) → IsReady e b args s → effect_at e b args ≡ Faults kind → HasDone e (builtin_state e b args s) [] e (stage.Over (ending.Arithmetic kind s.place))
  pub writes : (e : code.Engine) (b : Builtin) (args : Row) (s : Setting) (bytes : List ℕ) → IsReady e b args s → effect_at e b args ≡ Writes bytes → HasDone e (builtin_state e b args s) (Out bytes ∷ []) e (stage.Doing s.rest)
  -- two places are to become the same
  pub equates : (e : code.Engine) (b : Builtin) (args : Row) (s : Setting) (x y : ℕ) (u : Unified) (heap : History) → IsReady e b args s → effect_at e b args ≡ Equates (value_of e.heap.changes x) (value_of e.heap.changes y) →
      AreUnified e x y u heap → HasDone e (builtin_state e b args s) [] (with_heap e heap) (equated_stage s u)
  -- a place is to become the same as a number that is put into a cell
  pub equates_number : (e : code.Engine) (b : Builtin) (args : Row) (s : Setting) (x y base : ℕ) (n : ℤ) (u : Unified) (mid heap : History) → IsReady e b args s → effect_at e b args ≡ Equates (value_of e.heap.changes x) (term.Int n) → x < size_of e.heap.changes →
      HasLoaded e.heap base (term.Int n ∷ []) y mid → AreUnified (with_heap e mid) x y u heap → HasDone e (builtin_state e b args s) [] (with_heap e heap) (equated_stage s u)
  -- two places can not become the same; what was tried is undone
  pub refutes : (e : code.Engine) (b : Builtin) (args : Row) (s : Setting) (x y : ℕ) (u : Unified) (tried heap : History) → IsReady e b args s →
      effect_at e b args ≡ Becomes (goal.Not (goal.Builtin builtin.Unify (value_of e.heap.changes x ∷ value_of e.heap.changes y ∷ []))) →
      HasUnified e.heap.changes x y u tried.changes → heap.changes ≡ e.heap.changes → HasDone e (builtin_state e b args s) [] (with_heap e heap) (refuted_stage s u)
  -- before it the arguments are put into cells
  pub loaded : (old : code.Engine) (from : State) (b : Builtin) (args : Row) (s : Setting) (mid new : code.Engine) (events : List Event) (to : code_stage.Stage) → HasArguments old from b args s mid →
      HasDone mid (builtin_state mid b args s) events new to → HasDone old from events new to
