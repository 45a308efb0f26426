-- A clause that is tried, and terms that are made equal, over cells.
-- The headline does not rest on this file.
use Rattle.std.specs.Prelude.{◌≡◌, ◌≤◌, ◌<◌, ◌+◌, ℕ, List, [], ◌∷◌, length, Some}
use Rattle.term_core.specs.declared.terms.Term.{Term}
use Rattle.prog_data.specs.declared.goals.Builtin.{Builtin}
use Rattle.prog_data.specs.declared.goals.Goal.{Goal}
use Rattle.prog_data.specs.declared.goals.Goal as goal
use Rattle.prog_data.specs.declared.programs.Clause.{Clause}
use Rattle.prog_data.specs.declared.programs.Place.{Place}
use Rattle.prog_data.specs.declared.programs.Program.{Program}
use Rattle.prog_data.specs.declared.events.Ending.TheVariants as ending
use Rattle.prog_data.specs.Goals.{goal_instance, pred_of, without_exit}
use Rattle.machine_model.specs.State.{Choice, State, Going, Over}
use Rattle.machine_model.specs.Tests.{Tests}
use Rattle.machine_model.specs.Step.{Equates, quietly}
use Rattle.machine_model.specs.Leaner.{clause_at, IsLeaner}
use Rattle.machine_model.specs.LeanerLaws.{below, AreBelow, before_goal, before_try}
use Rattle.term_heap.specs.Changes.{Change, size_of, value_of, IsMade}
use Rattle.unify_core.specs.Heads.{HasMatched}
use Rattle.unify_core.specs.Unifies.{HasUnified}
use Rattle.unify_core.specs.declared.unifying.Unified.{Unified}
use Rattle.unify_core.specs.declared.unifying.Unified.TheVariants.{Same, Clash, Cyclic}
use Rattle.engine_state.specs.Engines.{Task, Pending, frame_with, call_with}
use Rattle.engine_state.specs.Within.{AreTasksWithin}
use Rattle.engine_state.specs.Moves.{Moves}
use Rattle.engine_state.specs.StepsMade.{doing, failing, effect_of}
use Rattle.engine_state.specs.MoveLaws.{entered_tasks}

-- a clause of a program in range has as many terms in its head as its predicate has arguments, and the variables of its body are below their number
pub record IsRanged (program : Program) (p : ℕ) (clause : Clause) : Type 0 where
  pub arity : length clause.head ≡ (pred_of program p).arity
  pub closed : goal_instance (below clause.vars) (without_exit clause.body) ≡ without_exit clause.body

-- the head of a clause was matched with the arguments of a call: with its own cells the heap had no other values than before, and it went on to a new one
pub record IsMatched (old own new : List Change) (clause : Clause) (c : Pending) (found : Unified) : Type 0 where
  pub made : IsMade old
  pub values : value_of own ≡ value_of old
  pub cells : size_of own ≡ size_of old + clause.vars
  pub arity : c.exit.count ≡ length clause.head
  pub args : c.exit.first + c.exit.count ≤ size_of old
  pub matched : HasMatched own (size_of old) c.exit.first clause.head found new
  pub made_new : IsMade new
  pub more : size_of own ≤ size_of new

module _ (what : Tests) (program : Program) (bound : ℕ) where
  module _ (made : ℕ) (cs : List Choice) where
    -- a state moves on by what was done with cells, to one that is its own leaner one where it was
    pub record CellsMove : Type 0 where
      pub ranged : (p k : ℕ) (clause : Clause) → clause_at program p k ≡ Some clause → IsRanged program p clause
      -- a clause is entered
      pub entered : (k : ℕ) (clause : Clause) (c : Pending) (tasks : List Task) (query : ℕ) (old own new : List Change) → clause_at program c.exit.pred k ≡ Some clause → IsMatched old own new clause c Same →
          AreTasksWithin (size_of old) tasks → query < size_of old → AreBelow (size_of new) cs →
          IsLeaner program (before_try made (size_of old) k (call_with (value_of old) tasks query c) cs) (before_try made (size_of old) k (call_with (value_of old) tasks query c) cs) →
          Moves what program bound (Going (before_try made (size_of old) k (call_with (value_of old) tasks query c) cs)) (quietly (Going (doing made (size_of new) cs (frame_with (value_of new) (entered_tasks what clause (size_of old) c tasks) query))))
          × IsLeaner program (doing made (size_of new) cs (frame_with (value_of new) (entered_tasks what clause (size_of old) c tasks) query)) (doing made (size_of new) cs (frame_with (value_of new) (entered_tasks what clause (size_of old) c tasks) query))
      -- its head clashes
      pub clashed : (k : ℕ) (clause : Clause) (c : Pending) (tasks : List Task) (query : ℕ) (old own new : List Change) → clause_at program c.exit.pred k ≡ Some clause → IsMatched old own new clause c Clash →
          AreBelow (size_of new) cs →
          IsLeaner program (before_try made (size_of old) k (call_with (value_of old) tasks query c) cs) (before_try made (size_of old) k (call_with (value_of old) tasks query c) cs) →
          Moves what program bound (Going (before_try made (size_of old) k (call_with (value_of old) tasks query c) cs)) (quietly (Going (failing made (size_of new) cs)))
          × IsLeaner program (failing made (size_of new) cs) (failing made (size_of new) cs)
      -- it would make a cyclic term
      pub cyclic : (k : ℕ) (clause : Clause) (c : Pending) (tasks : List Task) (query : ℕ) (old own new : List Change) → clause_at program c.exit.pred k ≡ Some clause → IsMatched old own new clause c Cyclic →
          Moves what program bound (Going (before_try made (size_of old) k (call_with (value_of old) tasks query c) cs)) (quietly (Over (ending.Cyclic clause.place)))
      -- the terms of two places are made equal
      pub equated : (g : Goal) (b : Builtin) (args : List Term) (h : ℕ) (place : Place) (tasks : List Task) (query x y : ℕ) (old new : List Change) → g ≡ goal.Builtin b args → effect_of program b args ≡ Equates (value_of old x) (value_of old y) →
          HasUnified old x y Same new → IsMade new → AreTasksWithin (size_of new) tasks → query < size_of new → AreBelow (size_of new) cs →
          IsLeaner program (before_goal made (size_of old) cs g h place (frame_with (value_of old) tasks query)) (before_goal made (size_of old) cs g h place (frame_with (value_of old) tasks query)) →
          Moves what program bound (Going (before_goal made (size_of old) cs g h place (frame_with (value_of old) tasks query))) (quietly (Going (doing made (size_of new) cs (frame_with (value_of new) tasks query))))
          × IsLeaner program (doing made (size_of new) cs (frame_with (value_of new) tasks query)) (doing made (size_of new) cs (frame_with (value_of new) tasks query))
