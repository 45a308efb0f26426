-- Clauses that are tried and terms that are made equal, with any most general values in place of those of the semantics.
-- The headline does not rest on this file.
use Rattle.std.specs.Prelude.{◌≡◌, ◌≤◌, ◌<◌, ◌+◌, ℕ, Bool, List, [], ◌∷◌, ◌++◌, length, replicate, None, Some, if◌then◌else◌}
use Rattle.term_core.specs.declared.terms.Term.{Term}
use Rattle.term_core.specs.declared.equations.Equation.{Equation}
use Rattle.term_core.specs.declared.equations.Binding.{Binding}
use Rattle.term_core.specs.declared.equations.Outcome.TheVariants.{Solved}
use Rattle.term_core.specs.Unify.{Unified, values}
use Rattle.term_core.specs.Solutions.{Solves}
use Rattle.term_core.specs.Variants.{IsMostGeneral}
use Rattle.prog_data.specs.declared.goals.Builtin.{Builtin}
use Rattle.prog_data.specs.declared.goals.Goal.{Goal}
use Rattle.prog_data.specs.declared.goals.Goal as goal
use Rattle.prog_data.specs.declared.programs.Clause.{Clause}
use Rattle.prog_data.specs.declared.programs.Place.{Place}
use Rattle.prog_data.specs.declared.programs.Program.{Program}
use Rattle.prog_data.specs.declared.events.Event.{Event}
use Rattle.prog_data.specs.Goals.{without_exit, pred_of}
use Rattle.machine_model.specs.State.{Does, Exits, Frame, Call, Choice, Doing, State, Phase, Going, Trace, frame_instance, cut}
use Rattle.machine_model.specs.Tests.{Tests}
use Rattle.machine_model.specs.Step.{Equates, frame_of, entered, quietly}
use Rattle.machine_model.specs.Leaner.{clause_at, IsLeaner}
use Rattle.machine_model.specs.LeanerLaws.{AreBelow, IsCurrentBelow, chosen, OthersCannotMatch, before_goal, before_try, after_try, call_above, after_call, head_equations}
use Rattle.term_heap.specs.declared.cells.Cell.TheVariants.{Free}
use Rattle.term_heap.specs.Changes.{Change, Grows, size_of, value_of, IsMade}
use Rattle.unify_core.specs.Heads as heads
use Rattle.engine_state.specs.Engines.{Task, Runs, Leaves, Pending, frame_with, call_with}
use Rattle.engine_state.specs.Moves.{Moves}
use Rattle.engine_state.specs.Tested.{Tested, HasTested, tested_trace}
use Rattle.engine_state.specs.StepsMade.{doing, equation, effect_of, found_at_call, whose_pre_holds, looks_at}

-- a cut to as many choices as there are leaves them, and one to the older ones takes the newer ones off
pub record CutsStay : Type 0 where
  pub none : (h : ℕ) (cs : List Choice) → length cs ≤ h → cut h cs ≡ cs
  pub newer : (newer older : List Choice) → cut (length older) (newer ++ older) ≡ older

-- the tasks of a clause that is tried: its body, with variables from a base on, the exit, and what is behind the call
abbrev pub entered_tasks : Tests → Clause → (base : ℕ) → Pending → List Task → List Task
entered_tasks what clause base c rest = Runs (without_exit clause.body) base c.height clause.place ∷ (if what.exits clause.body then Leaves c.exit ∷ rest else rest)

-- a clause that is tried over cells, of which the first of its own is the next one
pub record ClausesEnter : Type 0 where
  -- new free cells change no value
  pub free : (changes : List Change) (count s : ℕ) → IsMade changes → value_of (Grows (replicate count Free) s ∷ changes) ≡ value_of changes
  -- the equations of places and the head are those of the arguments and the head
  pub head : (changes : List Change) (tasks : List Task) (query : ℕ) (c : Pending) (clause : Clause) → IsMade changes → c.exit.count ≡ length clause.head →
      heads.head_equations (value_of changes) (size_of changes) c.exit.first clause.head ≡ head_equations (size_of changes) clause (call_with (value_of changes) tasks query c)
  -- the tasks are the frame
  pub frame : (what : Tests) (program : Program) (bound : ℕ) (changes : List Change) (tasks : List Task) (query : ℕ) (c : Pending) (clause : Clause) → IsMade changes →
      frame_with (value_of changes) (entered_tasks what clause (size_of changes) c tasks) query ≡ entered what program bound (size_of changes) clause (call_with (value_of changes) tasks query c)

-- equations that some values solve are solved
abbrev pub SolvedHaveBindings : Type 0
SolvedHaveBindings = (es : List Equation) (value : ℕ → Term) → Solves value es → (bs : List Binding) × Unified es (Solved bs)

module _ (program : Program) where
  -- what a built-in equates may be made equal by any most general values
  pub record EquatedAlike : Type 0 where
    pub alike : (made n : ℕ) (cs : List Choice) (g : Goal) (b : Builtin) (args : List Term) (h : ℕ) (place : Place) (rest : Frame) (x y : Term) (one other : ℕ → Term) → g ≡ goal.Builtin b args → effect_of program b args ≡ Equates x y →
        IsLeaner program (before_goal made n cs g h place rest) (before_goal made n cs g h place rest) → IsMostGeneral (equation x y) one → IsMostGeneral (equation x y) other →
        IsLeaner program (doing made n cs (frame_instance one rest)) (doing made n cs (frame_instance other rest))
    -- also those of the bindings
    pub solved : (made n : ℕ) (cs : List Choice) (g : Goal) (b : Builtin) (args : List Term) (h : ℕ) (place : Place) (rest : Frame) (x y : Term) (bs : List Binding) (value : ℕ → Term) → g ≡ goal.Builtin b args → effect_of program b args ≡ Equates x y →
        IsLeaner program (before_goal made n cs g h place rest) (before_goal made n cs g h place rest) → Unified (equation x y) (Solved bs) → IsMostGeneral (equation x y) value →
        IsLeaner program (doing made n cs (frame_instance (values bs) rest)) (doing made n cs (frame_instance value rest)) × IsLeaner program (doing made n cs (frame_instance value rest)) (doing made n cs (frame_instance (values bs) rest))

module _ (what : Tests) (program : Program) (bound : ℕ) where
  -- a state before a goal or a try that is its own leaner one moves on by any most general values, to one that is too
  pub record SolvedMove : Type 0 where
    pub tried : (made n k : ℕ) (call : Call) (cs : List Choice) (clause : Clause) (value : ℕ → Term) → clause_at program call.pred k ≡ Some clause → IsLeaner program (before_try made n k call cs) (before_try made n k call cs) →
        IsMostGeneral (head_equations n clause call) value →
        Moves what program bound (Going (before_try made n k call cs)) (quietly (Going (after_try what program bound made n clause call cs value)))
        × IsLeaner program (after_try what program bound made n clause call cs value) (after_try what program bound made n clause call cs value)
    pub equated : (made n : ℕ) (cs : List Choice) (g : Goal) (b : Builtin) (args : List Term) (h : ℕ) (place : Place) (rest : Frame) (x y : Term) (value : ℕ → Term) → g ≡ goal.Builtin b args → effect_of program b args ≡ Equates x y →
        IsLeaner program (before_goal made n cs g h place rest) (before_goal made n cs g h place rest) → IsMostGeneral (equation x y) value →
        Moves what program bound (Going (before_goal made n cs g h place rest)) (quietly (Going (doing made n cs (frame_instance value rest))))
        × IsLeaner program (doing made n cs (frame_instance value rest)) (doing made n cs (frame_instance value rest))

  -- what moves on to or from a leaner state, and to or from one with another number above its variables
  pub record LeanersMove : Type 0 where
    pub after : (p : Phase) (events : List Event) (tests : ℕ) (s s' : State) → Moves what program bound p (record { events = events; tests = tests; phase = Going s }) → IsLeaner program s s' →
        Moves what program bound p (record { events = events; tests = tests; phase = Going s' })
    -- so behind tests, whether or not they have ended the run
    pub after_tests : (p : Phase) (r : Tested) (events : List Event) (tests : ℕ) (s s' : State) → Moves what program bound p (tested_trace r (record { events = events; tests = tests; phase = Going s })) → IsLeaner program s s' →
        Moves what program bound p (tested_trace r (record { events = events; tests = tests; phase = Going s' }))
    pub before : (s s' : State) (t : Trace) → IsLeaner program s s' → Moves what program bound (Going s') t → Moves what program bound (Going s) t
    pub numbered : (n : ℕ) (s : State) → IsLeaner program s s → AreBelow n s.choices → IsCurrentBelow n s.current → IsLeaner program s (record s { fresh = n }) × IsLeaner program (record s { fresh = n }) (record s { fresh = n })
    -- an exit that tests nothing may be left out behind the first goal
    pub without_exit : (s s' : State) (g : Goal) (h : ℕ) (place : Place) (p : ℕ) (args : List Term) (rest : Frame) → s'.current ≡ Doing (frame_of (Does g h place ∷ Exits p args [] None ∷ rest.items) rest) → IsLeaner program s s' →
        IsLeaner program s (record s' { current = Doing (frame_of (Does g h place ∷ rest.items) rest) })

  -- what comes after the tests of a call of which only some clauses are to be tried
  abbrev pub after_chosen : (chooses : ℕ → Bool) → (made n : ℕ) → List Choice → (pred : ℕ) → List Term → Frame → Trace
  after_chosen chooses made n cs p args rest =
      let noted = whose_pre_holds program args (looks_at what program bound p).notes in
      let marked = whose_pre_holds program args (looks_at what program bound p).marks in
      record {
        events = [];
        tests = length (looks_at what program bound p).notes + length (looks_at what program bound p).marks;
        phase = Going (after_call made n cs p marked (chosen chooses 0 (pred_of program p).clauses (call_above cs p args noted marked rest)));
      }

  -- clauses that cannot match may be left out at a call, whatever its tests gave
  pub record CallsMove : Type 0 where
    pub chosen_clauses : (made n p : ℕ) (cs : List Choice) (g : Goal) (args : List Term) (h : ℕ) (place : Place) (rest : Frame) (r : Tested) (chooses : ℕ → Bool) → g ≡ goal.Call p args → made < bound →
        HasTested what.stops 1 (found_at_call program args) (looks_at what program bound p).calls r → IsLeaner program (before_goal made n cs g h place rest) (before_goal made n cs g h place rest) →
        OthersCannotMatch program chooses 0 (length (pred_of program p).clauses)
        (call_above cs p args (whose_pre_holds program args (looks_at what program bound p).notes) (whose_pre_holds program args (looks_at what program bound p).marks) rest) →
        Moves what program bound (Going (before_goal made n cs g h place rest)) (tested_trace r (after_chosen chooses made n cs p args rest))
