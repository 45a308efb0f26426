-- What every step keeps, every run keeps.
use Rattle.std.proofs.Common.{◌≡◌, ℕ, zero, suc, ◌+◌, ◌<◌, ◌≤◌, Bool, true, false, List, [], ◌∷◌, refl, subst, arith}
use Rattle.std.proofs.lemmas.Bool.Decides.{nat_tests}
use Rattle.term_core.specs.declared.terms.Term as term
use Rattle.std.specs.Prelude.{slice_index_or, nat_le, Option, None, Some, if◌then◌else◌}
use Rattle.term_core.specs.declared.terms.Term.{Term}
use Rattle.term_core.specs.declared.equations.Outcome.TheVariants.{Solved, Clash, Cyclic}
use Rattle.term_core.specs.Unify.{Stage, Open, Ended}
use Rattle.prog_data.specs.declared.goals.Goal.{Goal, out-Goal}
use Rattle.prog_data.specs.declared.goals.Goal.TheOpen.{Goal-F, True, Fail, Cut, Call as CallGoal, Builtin as BuiltinGoal, Conj, Disj, IfElse, Not, Exit}
use Rattle.prog_data.specs.declared.programs.Clause.{Clause}
use Rattle.prog_data.specs.declared.programs.Pred.{Pred}
use Rattle.prog_data.specs.declared.programs.Place.{Place}
use Rattle.prog_data.specs.declared.programs.Program.{Program}
use Rattle.prog_data.specs.Goals.{pred_of}
use Rattle.prog_data.specs.declared.events.Ending.TheVariants as ending
use Rattle.machine_model.specs.State.{Item, Does, CutTo, Exits, Frame, Call, Choice, Resume, Try, Mark, Current, Doing, Solving, Failed, State, Phase, Going, Over, Trace}
use Rattle.machine_model.specs.Tests.{Tests}
use Rattle.machine_model.specs.Step.{step, step_at, frame_step, goal_step, call_step, call_made, quietly, builtin_step, failure_step, try_step, solving_step, Finding, Holds, Breaks, Unknown, after_test, after_tests, Effect, Succeeds, Fails, Writes, Equates, Becomes, Faults, effect}
use Rattle.machine_model.specs.Run.{steps}
use Rattle.machine_model.specs.Laws.{CallsBounded}

-- the fact holds of the state that the run has come to, if it goes on
abbrev pub IfGoing : (State → Type 0) → Phase → Type 0
IfGoing P (Going s) = P s
IfGoing P (Over e) = Unit {0}

-- a test changes nothing but that a run may be over
after_test_keeps : (P : State → Type 0) (stops : Bool) (counts c : ℕ) (found : Finding) (next : Trace) → IfGoing P next.phase → IfGoing P (after_test stops counts c found next).phase
after_test_keeps P stops counts c Holds next h = h
after_test_keeps P true counts c Breaks next h = tt
after_test_keeps P false counts c Breaks next h = h
after_test_keeps P stops counts c Unknown next h = tt

-- nor do tests
pub after_tests_keep : (P : State → Type 0) (stops : Bool) (counts : ℕ) (find : ℕ → Finding) (cs : List ℕ) (next : Trace) → IfGoing P next.phase → IfGoing P (after_tests stops counts find cs next).phase
after_tests_keep P stops counts find [] next h = h
after_tests_keep P stops counts find (c ∷ cs) next h = after_test_keeps P stops counts c (find c) (after_tests stops counts find cs next) (after_tests_keep P stops counts find cs next h)

module _ (what : Tests) (program : Program) (bound : ℕ) where
  -- the induction
  pub steps_keep : (P : State → Type 0) → ((s : State) → P s → IfGoing P (step what program bound s).phase) →
      (k : ℕ) (p : Phase) → IfGoing P p → IfGoing P (steps what program bound k p).phase
  steps_keep P keep zero p h = h
  steps_keep P keep (suc k) (Over e) h = tt
  steps_keep P keep (suc k) (Going s) h = steps_keep P keep k (step what program bound s).phase (keep s h)

  -- a fact of the number of calls and the next variable alone is kept, where calls and clauses keep it
  module _ (P : ℕ → ℕ → Type 0) (at_call : (calls fresh : ℕ) → calls < bound → P calls fresh → P (suc calls) fresh) (at_clause : (calls fresh vars : ℕ) → P calls fresh → P calls (fresh + vars)) where
    abbrev pub Of : State → Type 0
    Of s = P s.calls s.fresh

    at_bound : (b : Bool) (t : Trace) → (b ≡ false → IfGoing Of t.phase) → IfGoing Of (if b then quietly (Over ending.Bound) else t).phase
    at_bound true t h = tt
    at_bound false t h = h refl

    call_keeps : (s : State) (p : ℕ) (pred : Pred) (args : List Term) (rest : Frame) → Of s → IfGoing Of (call_step what program bound s p pred args rest).phase
    call_keeps s p pred args rest h = at_bound (nat_le bound s.calls) (call_made what program bound s p pred args rest) (λ e. let less : s.calls < bound = grind (arith, nat_tests) in let next = at_call s.calls s.fresh less h in search (after_tests_keep, next))

    builtin_keeps : (s : State) (e : Effect) (height : ℕ) (place : Place) (rest : Frame) → Of s → IfGoing Of (builtin_step what program bound s e height place rest).phase
    builtin_keeps s Succeeds height place rest h = h
    builtin_keeps s Fails height place rest h = h
    builtin_keeps s (Writes bytes) height place rest h = h
    builtin_keeps s (Equates a b) height place rest h = h
    builtin_keeps s (Becomes g) height place rest h = h
    builtin_keeps s (Faults kind) height place rest h = tt

    goal_keeps : (s : State) (g : Goal-F Goal) (height : ℕ) (place : Place) (rest : Frame) → Of s → IfGoing Of (goal_step what program bound s g height place rest).phase
    goal_keeps s True height place rest h = h
    goal_keeps s Fail height place rest h = h
    goal_keeps s Cut height place rest h = h
    goal_keeps s (CallGoal p args) height place rest h = call_keeps s p (pred_of program p) args rest h
    goal_keeps s (BuiltinGoal b args) height place rest h = builtin_keeps s (effect program b (slice_index_or args 0 (term.Atom 0)) (slice_index_or args 1 (term.Atom 0))) height place rest h
    goal_keeps s (Conj a b) height place rest h = h
    goal_keeps s (Disj a b) height place rest h = h
    goal_keeps s (IfElse c a b) height place rest h = h
    goal_keeps s (Not a) height place rest h = h
    goal_keeps s Exit height place rest h = h

    frame_keeps : (s : State) (f : Frame) (items : List Item) → Of s → IfGoing Of (frame_step what program bound s f items).phase
    frame_keeps s f [] h = h
    frame_keeps s f (Does g height place ∷ items) h = goal_keeps s (out-Goal g) height place _ h
    frame_keeps s f (CutTo height ∷ items) h = h
    frame_keeps s f (Exits p args noted mark ∷ items) h = search (after_tests_keep, h)

    try_keeps : (s : State) (c : Option Clause) (call : Call) (cs : List Choice) → Of s → IfGoing Of (try_step what program bound s c call cs).phase
    try_keeps s None call cs h = h
    try_keeps s (Some clause) call cs h = at_clause s.calls s.fresh clause.vars h

    failure_keeps : (s : State) (cs : List Choice) → Of s → IfGoing Of (failure_step what program bound s cs).phase
    failure_keeps s [] h = tt
    failure_keeps s (Resume f ∷ cs) h = h
    failure_keeps s (Try k call ∷ cs) h = try_keeps s _ call cs h
    failure_keeps s (Mark p conds exited ∷ cs) h = search (after_tests_keep, h)

    solving_keeps : (s : State) (place : Place) (stage : Stage) (f : Frame) → Of s → IfGoing Of (solving_step what program bound s place stage f).phase
    solving_keeps s place (Open es bs) f h = h
    solving_keeps s place (Ended (Solved bs)) f h = h
    solving_keeps s place (Ended Clash) f h = h
    solving_keeps s place (Ended Cyclic) f h = tt

    current_keeps : (s : State) (c : Current) → Of s → IfGoing Of (step_at what program bound s c).phase
    current_keeps s (Doing f) h = frame_keeps s f f.items h
    current_keeps s (Solving place stage f) h = solving_keeps s place stage f h
    current_keeps s Failed h = failure_keeps s s.choices h

    pub step_keeps : (s : State) → Of s → IfGoing Of (step what program bound s).phase
    step_keeps s h = current_keeps s s.current h

  at_most : (k : ℕ) (s : State) → s.calls ≤ bound → IfGoing (λ s'. s'.calls ≤ bound) (steps what program bound k (Going s)).phase
  at_most k s h = steps_keep (λ s'. s'.calls ≤ bound) (step_keeps (λ calls fresh. calls ≤ bound) (λ calls fresh less h. omega (arith, less)) (λ calls fresh vars h. h)) k (Going s) h

  -- the calls made never pass the bound
  pub calls_bounded : CallsBounded what program bound
  calls_bounded s s' h reaches = subst (IfGoing (λ s'. s'.calls ≤ bound)) reaches.phase (at_most reaches.count s h)

  -- the number above all variables never falls
  pub fresh_rises : (k : ℕ) (s : State) → IfGoing (λ s'. s.fresh ≤ s'.fresh) (steps what program bound k (Going s)).phase
  fresh_rises k s = steps_keep (λ s'. s.fresh ≤ s'.fresh) (step_keeps (λ calls fresh. s.fresh ≤ fresh) (λ calls fresh less h. h) (λ calls fresh vars h. omega (arith, h))) k (Going s) (omega arith)
