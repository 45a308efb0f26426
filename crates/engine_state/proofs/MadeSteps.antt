-- What the semantics does with a goal, a call, an exit and a failure.
use Rattle.std.proofs.Common.{◌≡◌, ◌≤◌, ◌<◌, ℕ, zero, suc, ◌+◌, Bool, true, false, not, List, [], ◌∷◌, ◌++◌, length, Option, Some, None, refl, sym, ap, ◌∙◌, subst}
use Rattle.std.specs.Prelude.{if◌then◌else◌, nat_le, slice_get}
use Rattle.std.proofs.lemmas.Bool.{le-leb, lt-leb}
use Rattle.term_core.specs.declared.terms.Term.{Term}
use Rattle.term_core.specs.declared.equations.Outcome.{Outcome}
use Rattle.term_core.specs.declared.equations.Outcome.TheVariants.{Solved, Clash, Cyclic}
use Rattle.term_core.specs.Terms.{numbered}
use Rattle.term_core.specs.Unify.{Stage, Open, Ended, Unified, solve, solves}
use Rattle.prog_data.specs.declared.goals.Builtin.{Builtin}
use Rattle.prog_data.specs.declared.goals.Goal.{Goal, out-Goal}
use Rattle.prog_data.specs.declared.goals.Goal as goal
use Rattle.prog_data.specs.declared.goals.Goal.TheOpen.{Goal-F}
use Rattle.prog_data.specs.declared.goals.Goal.TheOpen as layer
use Rattle.prog_data.specs.declared.goals.Goal.TheVariants.{outs-True, outs-Fail, outs-Cut, outs-Call, outs-Builtin, outs-Conj, outs-Disj, outs-IfElse, outs-Not, outs-Exit}
use Rattle.prog_data.specs.declared.programs.Clause.{Clause}
use Rattle.prog_data.specs.declared.programs.Place.{Place}
use Rattle.prog_data.specs.declared.programs.Program.{Program}
use Rattle.prog_data.specs.declared.events.ArithKind.{ArithKind}
use Rattle.prog_data.specs.declared.events.Ending.TheVariants as ending
use Rattle.prog_data.specs.declared.events.Event.TheVariants.{Out, Answer}
use Rattle.prog_data.specs.Goals.{pred_of}
use Rattle.machine_model.specs.State.{Item, Does, CutTo, Exits, Frame, Call, Choice, Resume, Try, Mark, Doing, Solving, Failed, State, Phase, Going, Over, Trace, cut, exit_mark}
use Rattle.machine_model.specs.Tests.{Tests}
use Rattle.machine_model.specs.Step.{step, frame_step, goal_step, builtin_step, call_step, call_made, try_step, quietly, telling, going, after_tests, Effect, Succeeds, Fails, Writes, Equates, Becomes, Faults, frame_of, mark_of, mark_conds, mark_exited, entered}
use Rattle.machine_model.specs.Leaner.{clause_at}
use Rattle.machine_model.specs.LeanerLaws.{before_goal, before_try, head_equations}
use Rattle.engine_state.specs.Tested.{Tested, HasTested, tested_trace, tested_then}
use Rattle.engine_state.specs.Moves.{Makes}
use Rattle.engine_state.specs.StepsMade.{doing, failing, solved_phase, equation, effect_of, found_at_call, found_at_exit, found_at_mark, found_at_failure, looks_at, after_calls_tests, GoalsMake, BuiltinsMake, CallsMake, ExitsMake, FailuresMake}
use Rattle.engine_state.proofs.TestedLaws.{traces_joined}
use Rattle.engine_state.proofs.Composing.{one_step, quiet_step}

module _ (what : Tests) (program : Program) (bound made n : ℕ) (cs : List Choice) where
  -- goals

  -- a goal of this form
  at_form : (g : Goal) (x : Goal-F Goal) (h : ℕ) (place : Place) (rest : Frame) (t : Trace) → out-Goal g ≡ x → goal_step what program bound (before_goal made n cs g h place rest) x h place rest ≡ t →
      Makes what program bound (before_goal made n cs g h place rest) t
  at_form g x h place rest t form is =
      one_step what program bound (before_goal made n cs g h place rest) t (ap (λ y. goal_step what program bound (before_goal made n cs g h place rest) y h place rest) form ∙ is)

  pub goals_make : GoalsMake what program bound made n cs
  goals_make = record {
    trues = λ g h place rest e. at_form g layer.True h place rest _ (ap out-Goal e ∙ outs-True) refl;
    exits = λ g h place rest e. at_form g layer.Exit h place rest _ (ap out-Goal e ∙ outs-Exit) refl;
    fails = λ g h place rest e. at_form g layer.Fail h place rest _ (ap out-Goal e ∙ outs-Fail) refl;
    cuts = λ g h place rest e. at_form g layer.Cut h place rest _ (ap out-Goal e ∙ outs-Cut) refl;
    conjs = λ g a b h place rest e. at_form g (layer.Conj a b) h place rest _ (ap out-Goal e ∙ outs-Conj a b) refl;
    disjs = λ g a b h place rest e. at_form g (layer.Disj a b) h place rest _ (ap out-Goal e ∙ outs-Disj a b) refl;
    ifs = λ g c a b h place rest e. at_form g (layer.IfElse c a b) h place rest _ (ap out-Goal e ∙ outs-IfElse c a b) refl;
    nots = λ g a h place rest e. at_form g (layer.Not a) h place rest _ (ap out-Goal e ∙ outs-Not a) refl;
    cuts_to = λ h rest. one_step what program bound _ _ refl;
    answers = λ f e. one_step what program bound (doing made n cs f) _ (ap (frame_step what program bound (doing made n cs f) f) e);
  }

  -- equations

  abbrev solving : Place → Stage → Frame → State
  solving place stage f = record { calls = made; fresh = n; choices = cs; current = Solving place stage f }

  ended_makes : (place : Place) (f : Frame) (o : Outcome) → Makes what program bound (solving place (Ended o) f) (quietly (solved_phase made n cs place f o))
  ended_makes place f (Solved bs) = one_step what program bound _ _ refl
  ended_makes place f Clash = one_step what program bound _ _ refl
  ended_makes place f Cyclic = one_step what program bound _ _ refl

  -- equations that are solved in some number of steps
  pub solving_makes : (k : ℕ) (stage : Stage) (place : Place) (f : Frame) (o : Outcome) → solves k stage ≡ Ended o → Makes what program bound (solving place stage f) (quietly (solved_phase made n cs place f o))
  solving_makes zero stage place f o e = subst (λ s. Makes what program bound (solving place s f) (quietly (solved_phase made n cs place f o))) (sym e) (ended_makes place f o)
  solving_makes (suc k) (Ended o') place f o e = solving_makes k (Ended o') place f o e
  solving_makes (suc k) (Open es bs) place f o e =
      quiet_step what program bound (solving place (Open es bs) f) (solving place (solve (Open es bs)) f) (solved_phase made n cs place f o) refl (solving_makes k (solve (Open es bs)) place f o e)

  -- built-ins

  at_effect : (g : Goal) (b : Builtin) (args : List Term) (h : ℕ) (place : Place) (rest : Frame) (x : Effect) → g ≡ goal.Builtin b args → effect_of program b args ≡ x →
      step what program bound (before_goal made n cs g h place rest) ≡ builtin_step what program bound (before_goal made n cs g h place rest) x h place rest
  at_effect g b args h place rest x e is =
      ap (λ y. goal_step what program bound (before_goal made n cs g h place rest) y h place rest) (ap out-Goal e ∙ outs-Builtin b args)
      ∙ ap (λ y. builtin_step what program bound (before_goal made n cs g h place rest) y h place rest) is

  pub builtins_make : BuiltinsMake what program bound made n cs
  builtins_make = record {
    succeeds = λ g b args h place rest e is. one_step what program bound _ _ (at_effect g b args h place rest Succeeds e is);
    fails = λ g b args h place rest e is. one_step what program bound _ _ (at_effect g b args h place rest Fails e is);
    writes = λ g b args h place rest bytes e is. one_step what program bound _ _ (at_effect g b args h place rest (Writes bytes) e is);
    becomes = λ g b args h place rest g' e is. one_step what program bound _ _ (at_effect g b args h place rest (Becomes g') e is);
    faults = λ g b args h place rest kind e is. one_step what program bound _ _ (at_effect g b args h place rest (Faults kind) e is);
    equates = λ g b args h place rest x y o e is ends.
        quiet_step what program bound (before_goal made n cs g h place rest) (solving place (Open (equation x y) []) rest) (solved_phase made n cs place rest o) (at_effect g b args h place rest (Equates x y) e is)
        (solving_makes ends.0 (Open (equation x y) []) place rest o ends.1);
  }

  -- calls

  at_call : (g : Goal) (p : ℕ) (args : List Term) (h : ℕ) (place : Place) (rest : Frame) (b : Bool) → g ≡ goal.Call p args → nat_le bound made ≡ b →
      step what program bound (before_goal made n cs g h place rest) ≡ (if b then quietly (Over ending.Bound) else call_made what program bound (before_goal made n cs g h place rest) p (pred_of program p) args rest)
  at_call g p args h place rest b e is =
      ap (λ y. goal_step what program bound (before_goal made n cs g h place rest) y h place rest) (ap out-Goal e ∙ outs-Call p args)
      ∙ ap (λ c. if c then quietly (Over ending.Bound) else call_made what program bound (before_goal made n cs g h place rest) p (pred_of program p) args rest) is

  pub calls_make : CallsMake what program bound made n cs
  calls_make = record {
    refused = λ g p args h place rest e le. one_step what program bound _ _ (at_call g p args h place rest true e (le-leb bound made le));
    tested = λ g p args h place rest r e lt has. one_step what program bound _ _ (at_call g p args h place rest false e (lt-leb bound made lt) ∙ has.is (after_calls_tests what program bound made n cs p args rest));
  }

  -- exits

  pub exits_make : ExitsMake what program bound made n cs
  exits_make = record {
    tested = λ p args noted mark rest r r' has has'.
        let next = quietly (Going (doing made n (exit_mark mark cs) rest)) in
        let m = mark_of mark cs in
        one_step what program bound (doing made n cs (frame_of (Exits p args noted mark ∷ rest.items) rest)) (tested_trace (tested_then r r') next)
        (has.is (after_tests what.stops 0 (found_at_mark program (mark_exited m)) (mark_conds m) next) ∙ ap (tested_trace r) (has'.is next) ∙ traces_joined r r' next);
  }

  -- failures

  at_clause : (k : ℕ) (call : Call) (found : Option Clause) → clause_at program call.pred k ≡ found → step what program bound (before_try made n k call cs) ≡ try_step what program bound (before_try made n k call cs) found call cs
  at_clause k call found is = ap (λ c. try_step what program bound (before_try made n k call cs) c call cs) is

-- the equations of a clause that is tried are solved with its variables
tried_makes : (what : Tests) (program : Program) (bound made n : ℕ) (cs : List Choice) (k : ℕ) (call : Call) (clause : Clause) (o : Outcome) → clause_at program call.pred k ≡ Some clause → Unified (head_equations n clause call) o →
    Makes what program bound (before_try made n k call cs) (quietly (solved_phase made (n + clause.vars) cs clause.place (entered what program bound n clause call) o))
tried_makes what program bound made n cs k call clause o is ends =
    let f = entered what program bound n clause call in
    quiet_step what program bound (before_try made n k call cs) (solving what program bound made (n + clause.vars) cs clause.place (Open (head_equations n clause call) []) f) (solved_phase made (n + clause.vars) cs clause.place f o)
    (at_clause what program bound made n cs k call (Some clause) is)
    (solving_makes what program bound made (n + clause.vars) cs ends.0 (Open (head_equations n clause call) []) clause.place f o ends.1)

pub failures_make : (what : Tests) (program : Program) (bound made n : ℕ) (cs : List Choice) → FailuresMake what program bound made n cs
failures_make what program bound made n cs = record {
  none = one_step what program bound _ _ refl;
  resume = λ f. one_step what program bound _ _ refl;
  mark = λ p conds exited r has. one_step what program bound (failing made n (Mark p conds exited ∷ cs)) _ (has.is (quietly (Going (failing made n cs))));
  missing = λ k call is. one_step what program bound _ _ (at_clause what program bound made n cs k call None is);
  try = λ k call clause o is ends. tried_makes what program bound made n cs k call clause o is ends;
}
