-- What the semantics does with a goal, a call, an exit and a failure, given the tests that were made.
-- The headline does not rest on this file.
use Rattle.std.specs.Prelude.{◌≡◌, ◌≤◌, ◌<◌, ℕ, suc, ◌+◌, Bool, not, List, [], ◌∷◌, map, length, filter, slice_index_or, Option, None, Some}
use Rattle.term_core.specs.declared.fixed.TheConstants.{NIL}
use Rattle.term_core.specs.declared.terms.Term.{Term}
use Rattle.term_core.specs.declared.terms.Term as term
use Rattle.term_core.specs.declared.equations.Equation.{Equation}
use Rattle.term_core.specs.declared.equations.Outcome.{Outcome}
use Rattle.term_core.specs.declared.equations.Outcome.TheVariants.{Solved, Clash, Cyclic}
use Rattle.term_core.specs.Terms.{numbered}
use Rattle.term_core.specs.Unify.{Unified, values}
use Rattle.prog_data.specs.declared.goals.Builtin.{Builtin}
use Rattle.prog_data.specs.declared.goals.Goal.{Goal}
use Rattle.prog_data.specs.declared.goals.Goal as goal
use Rattle.prog_data.specs.declared.programs.Clause.{Clause}
use Rattle.prog_data.specs.declared.programs.Place.{Place}
use Rattle.prog_data.specs.declared.programs.Program.{Program}
use Rattle.prog_data.specs.declared.events.ArithKind.{ArithKind}
use Rattle.prog_data.specs.declared.events.Event.TheVariants.{Out, Answer}
use Rattle.prog_data.specs.declared.events.Ending.TheVariants as ending
use Rattle.prog_data.specs.Conditions.{kind_of, calls_hold, pre_holds, post_holds, exit_breaks, failure_breaks}
use Rattle.prog_data.specs.Goals.{pred_of}
use Rattle.machine_model.specs.State.{Item, Does, CutTo, Exits, Frame, Call, Choice, Resume, Try, Mark, Doing, Failed, State, Phase, Going, Over, Trace, frame_instance, cut, choice_at, exit_mark}
use Rattle.machine_model.specs.Tests.{Tests, Looks}
use Rattle.machine_model.specs.Step.{Finding, finding, Effect, Succeeds, Fails, Writes, Equates, Becomes, Faults, effect, frame_of, tries, mark_of, mark_conds, mark_exited, entered, quietly, telling}
use Rattle.machine_model.specs.Leaner.{clause_at}
use Rattle.machine_model.specs.LeanerLaws.{before_goal, before_try, after_call, call_above, head_equations}
use Rattle.engine_state.specs.Tested.{Tested, HasTested, tested_trace, tested_then}
use Rattle.engine_state.specs.Moves.{Makes}

-- states and phases

-- a frame is done
abbrev pub doing : (made n : ℕ) → List Choice → Frame → State
doing made n cs f = record { calls = made; fresh = n; choices = cs; current = Doing f }

-- the run has failed, and goes back
abbrev pub failing : (made n : ℕ) → List Choice → State
failing made n cs = record { calls = made; fresh = n; choices = cs; current = Failed }

-- the phase after equations have ended so, before this frame
abbrev pub solved_phase : (made n : ℕ) → List Choice → Place → Frame → Outcome → Phase
solved_phase made n cs place f (Solved bs) = Going (doing made n cs (frame_instance (values bs) f))
solved_phase made n cs place f Clash = Going (failing made n cs)
solved_phase made n cs place f Cyclic = Over (ending.Cyclic place)

-- one equation
abbrev pub equation : Term → Term → List Equation
equation a b = record { left = a; right = b } ∷ []

-- what is tested

-- what a built-in does with its arguments
abbrev pub effect_of : Program → Builtin → List Term → Effect
effect_of program b args = effect program b (slice_index_or args 0 (term.Atom NIL)) (slice_index_or args 1 (term.Atom NIL))

module _ (program : Program) where
  -- what a test finds of a condition at a call with these arguments
  abbrev pub found_at_call : List Term → ℕ → Finding
  found_at_call args c = finding (calls_hold program.grammar args (kind_of program c))

  -- at an exit with these
  abbrev pub found_at_exit : List Term → ℕ → Finding
  found_at_exit args c = finding (post_holds program.grammar args (kind_of program c))

  -- at an exit of a mark, which was exited before or not
  abbrev pub found_at_mark : Bool → ℕ → Finding
  found_at_mark exited c = finding (not (exit_breaks exited (kind_of program c)))

  -- at a failure of a mark
  abbrev pub found_at_failure : Bool → ℕ → Finding
  found_at_failure exited c = finding (not (failure_breaks exited (kind_of program c)))

  -- those of some conditions whose Pre holds at a call with these arguments
  abbrev pub whose_pre_holds : List Term → List ℕ → List ℕ
  whose_pre_holds args cs = filter (λ c. pre_holds program.grammar args (kind_of program c)) cs

module _ (what : Tests) (program : Program) (bound : ℕ) where
  -- the conditions that a call of a predicate looks at
  abbrev pub looks_at : ℕ → Looks
  looks_at p = what.looks (pred_of program p)

  -- what comes after the tests of a call
  abbrev pub after_calls_tests : (made n : ℕ) → List Choice → (pred : ℕ) → List Term → Frame → Trace
  after_calls_tests made n cs p args rest =
      let noted = whose_pre_holds program args (looks_at p).notes in
      let marked = whose_pre_holds program args (looks_at p).marks in
      record {
        events = [];
        tests = length (looks_at p).notes + length (looks_at p).marks;
        phase = Going (after_call made n cs p marked (tries 0 (pred_of program p).clauses (call_above cs p args noted marked rest)));
      }

  module _ (made n : ℕ) (cs : List Choice) where
    -- what each goal of control does
    pub record GoalsMake : Type 0 where
      pub trues : (g : Goal) (h : ℕ) (place : Place) (rest : Frame) → g ≡ goal.True → Makes what program bound (before_goal made n cs g h place rest) (quietly (Going (doing made n cs rest)))
      pub exits : (g : Goal) (h : ℕ) (place : Place) (rest : Frame) → g ≡ goal.Exit → Makes what program bound (before_goal made n cs g h place rest) (quietly (Going (doing made n cs rest)))
      pub fails : (g : Goal) (h : ℕ) (place : Place) (rest : Frame) → g ≡ goal.Fail → Makes what program bound (before_goal made n cs g h place rest) (quietly (Going (failing made n cs)))
      pub cuts : (g : Goal) (h : ℕ) (place : Place) (rest : Frame) → g ≡ goal.Cut → Makes what program bound (before_goal made n cs g h place rest) (quietly (Going (doing made n (cut h cs) rest)))
      pub conjs : (g a b : Goal) (h : ℕ) (place : Place) (rest : Frame) → g ≡ goal.Conj a b →
          Makes what program bound (before_goal made n cs g h place rest) (quietly (Going (doing made n cs (frame_of (Does a h place ∷ Does b h place ∷ rest.items) rest))))
      pub disjs : (g a b : Goal) (h : ℕ) (place : Place) (rest : Frame) → g ≡ goal.Disj a b →
          Makes what program bound (before_goal made n cs g h place rest) (quietly (Going (doing made n (Resume (frame_of (Does b h place ∷ rest.items) rest) ∷ cs) (frame_of (Does a h place ∷ rest.items) rest))))
      pub ifs : (g c a b : Goal) (h : ℕ) (place : Place) (rest : Frame) → g ≡ goal.IfElse c a b →
          Makes what program bound (before_goal made n cs g h place rest)
          (quietly (Going (doing made n (Resume (frame_of (Does b h place ∷ rest.items) rest) ∷ cs) (frame_of (Does c (suc (length cs)) place ∷ CutTo (length cs) ∷ Does a h place ∷ rest.items) rest))))
      pub nots : (g a : Goal) (h : ℕ) (place : Place) (rest : Frame) → g ≡ goal.Not a →
          Makes what program bound (before_goal made n cs g h place rest)
          (quietly (Going (doing made n (Resume rest ∷ cs) (frame_of (Does a (suc (length cs)) place ∷ CutTo (length cs) ∷ Does goal.Fail h place ∷ rest.items) rest))))
      -- the cut of a condition
      pub cuts_to : (h : ℕ) (rest : Frame) → Makes what program bound (doing made n cs (frame_of (CutTo h ∷ rest.items) rest)) (quietly (Going (doing made n (cut h cs) rest)))
      -- nothing is left to be done
      pub answers : (f : Frame) → f.items ≡ [] → Makes what program bound (doing made n cs f) (telling (Answer (numbered f.query)) (Going (failing made n cs)))

    -- what a built-in does, by its effect
    pub record BuiltinsMake : Type 0 where
      pub succeeds : (g : Goal) (b : Builtin) (args : List Term) (h : ℕ) (place : Place) (rest : Frame) → g ≡ goal.Builtin b args → effect_of program b args ≡ Succeeds →
          Makes what program bound (before_goal made n cs g h place rest) (quietly (Going (doing made n cs rest)))
      pub fails : (g : Goal) (b : Builtin) (args : List Term) (h : ℕ) (place : Place) (rest : Frame) → g ≡ goal.Builtin b args → effect_of program b args ≡ Fails →
          Makes what program bound (before_goal made n cs g h place rest) (quietly (Going (failing made n cs)))
      pub writes : (g : Goal) (b : Builtin) (args : List Term) (h : ℕ) (place : Place) (rest : Frame) (bytes : List ℕ) → g ≡ goal.Builtin b args → effect_of program b args ≡ Writes bytes →
          Makes what program bound (before_goal made n cs g h place rest) (telling (Out bytes) (Going (doing made n cs rest)))
      pub becomes : (g : Goal) (b : Builtin) (args : List Term) (h : ℕ) (place : Place) (rest : Frame) (g' : Goal) → g ≡ goal.Builtin b args → effect_of program b args ≡ Becomes g' →
          Makes what program bound (before_goal made n cs g h place rest) (quietly (Going (before_goal made n cs g' h place rest)))
      pub faults : (g : Goal) (b : Builtin) (args : List Term) (h : ℕ) (place : Place) (rest : Frame) (kind : ArithKind) → g ≡ goal.Builtin b args → effect_of program b args ≡ Faults kind →
          Makes what program bound (before_goal made n cs g h place rest) (quietly (Over (ending.Arithmetic kind place)))
      pub equates : (g : Goal) (b : Builtin) (args : List Term) (h : ℕ) (place : Place) (rest : Frame) (x y : Term) (o : Outcome) → g ≡ goal.Builtin b args → effect_of program b args ≡ Equates x y → Unified (equation x y) o →
          Makes what program bound (before_goal made n cs g h place rest) (quietly (solved_phase made n cs place rest o))

    -- what a call does, given what its tests gave
    pub record CallsMake : Type 0 where
      pub refused : (g : Goal) (p : ℕ) (args : List Term) (h : ℕ) (place : Place) (rest : Frame) → g ≡ goal.Call p args → bound ≤ made → Makes what program bound (before_goal made n cs g h place rest) (quietly (Over ending.Bound))
      pub tested : (g : Goal) (p : ℕ) (args : List Term) (h : ℕ) (place : Place) (rest : Frame) (r : Tested) → g ≡ goal.Call p args → made < bound →
          HasTested what.stops 1 (found_at_call program args) (looks_at p).calls r → Makes what program bound (before_goal made n cs g h place rest) (tested_trace r (after_calls_tests made n cs p args rest))

    -- what an exit does, given what the tests of its notes and then those of its mark gave
    pub record ExitsMake : Type 0 where
      pub tested : (p : ℕ) (args : List Term) (noted : List ℕ) (mark : Option ℕ) (rest : Frame) (r r' : Tested) →
          HasTested what.stops 1 (found_at_exit program args) noted r → HasTested what.stops 0 (found_at_mark program (mark_exited (mark_of mark cs))) (mark_conds (mark_of mark cs)) r' →
          Makes what program bound (doing made n cs (frame_of (Exits p args noted mark ∷ rest.items) rest)) (tested_trace (tested_then r r') (quietly (Going (doing made n (exit_mark mark cs) rest))))

    -- what failure does, by the newest choice
    pub record FailuresMake : Type 0 where
      pub none : Makes what program bound (failing made n []) (quietly (Over ending.NoMore))
      pub resume : (f : Frame) → Makes what program bound (failing made n (Resume f ∷ cs)) (quietly (Going (doing made n cs f)))
      pub mark : (p : ℕ) (conds : List ℕ) (exited : Bool) (r : Tested) → HasTested what.stops 0 (found_at_failure program exited) conds r →
          Makes what program bound (failing made n (Mark p conds exited ∷ cs)) (tested_trace r (quietly (Going (failing made n cs))))
      pub missing : (k : ℕ) (call : Call) → clause_at program call.pred k ≡ None → Makes what program bound (before_try made n k call cs) (quietly (Going (failing made n cs)))
      pub try : (k : ℕ) (call : Call) (clause : Clause) (o : Outcome) → clause_at program call.pred k ≡ Some clause → Unified (head_equations n clause call) o →
          Makes what program bound (before_try made n k call cs) (quietly (solved_phase made (n + clause.vars) cs clause.place (entered what program bound n clause call) o))
