-- A condition that ends a run is due in the state before, and does not hold there.
use Rattle.std.proofs.Common.{◌≡◌, ℕ, ◌<◌, Bool, true, false, List, [], ◌∷◌, refl, sym, ◌∙◌, subst, arith, ◌⊎◌, inl, inr}
use Rattle.std.proofs.lemmas.Bool.Decides.{nat_tests}
use Rattle.std.specs.Prelude.{nat_le, not, Contains, slice_get, slice_index_or, Option, None, Some, if◌then◌else◌}
use Rattle.term_core.specs.declared.terms.Term.{Term}
use Rattle.term_core.specs.declared.terms.Term as term
use Rattle.term_core.specs.declared.equations.Outcome.TheVariants.{Solved, Clash, Cyclic}
use Rattle.term_core.specs.Unify.{Stage, Open, Ended}
use Rattle.prog_data.specs.declared.goals.Goal.{Goal, out-Goal}
use Rattle.prog_data.specs.declared.goals.Goal.TheOpen.{Goal-F, True, Fail, Cut, Call as CallGoal, Builtin as BuiltinGoal, Conj, Disj, IfElse, Not, Exit}
use Rattle.prog_data.specs.declared.programs.Clause.{Clause}
use Rattle.prog_data.specs.declared.conditions.CondKind.{CondKind}
use Rattle.prog_data.specs.declared.conditions.CondKind.TheVariants as kind
use Rattle.prog_data.specs.declared.conditions.CompProp.TheVariants.{NotFails, Fails as FailsProp, IsDet}
use Rattle.prog_data.specs.declared.programs.Place.{Place}
use Rattle.prog_data.specs.declared.programs.Program.{Program}
use Rattle.prog_data.specs.declared.events.Ending.TheVariants as ending
use Rattle.prog_data.specs.Conditions.{kind_of, is_calls, calls_hold, post_holds, exit_breaks, failure_breaks}
use Rattle.prog_data.specs.Goals.{pred_of}
use Rattle.prog_data.proofs.Leaves.{In, here, later, filter_in}
use Rattle.prog_data.proofs.MembershipLaws.{in_contains}
use Rattle.machine_model.specs.State.{Item, Does, CutTo, Exits, Frame, Call, Choice, Resume, Try, Mark, Current, Doing, Solving, Failed, State, Going, Over, Trace, exit_mark}
use Rattle.machine_model.specs.Tests.{every_condition, all_looks}
use Rattle.machine_model.specs.Step.{step, step_at, frame_step, goal_step, call_made, builtin_step, failure_step, try_step, solving_step, finding, after_test, after_tests, quietly, going, frame_of, mark_of, mark_conds, mark_exited, Effect, Succeeds, Fails, Writes, Equates, Becomes, Faults, effect}
use Rattle.machine_model.specs.Points.{IsCall, IsExit, IsFailure, Due, at_call, at_exit, at_fails, at_later_exit, at_failure}

-- the condition that ends the run is a broken one of those that are tested, or it comes after the tests
abbrev FoundIn : (ℕ → Bool) → List ℕ → Trace → ℕ → Type 0
FoundIn test cs next c = (In c cs × (test c ≡ false)) ⊎ (next.phase ≡ Over (ending.Violated c))

first_broken : (counts : ℕ) (test : ℕ → Bool) (cs : List ℕ) (next : Trace) (c : ℕ) → (after_tests true counts (λ d. finding (test d)) cs next).phase ≡ Over (ending.Violated c) → FoundIn test cs next c
first_broken counts test [] next c e = inr e
first_broken counts test (d ∷ ds) next c e = by_test (test d) refl (first_broken counts test ds next c) e
  where
    further : FoundIn test ds next c → FoundIn test (d ∷ ds) next c
    further (inl i) = inl (later i.0, i.1)
    further (inr e) = inr e

    same : (d c : ℕ) → Over (ending.Violated d) ≡ Over (ending.Violated c) → d ≡ c
    same d c e = cc

    by_test : (b : Bool) → test d ≡ b → ((after_tests true counts (λ d. finding (test d)) ds next).phase ≡ Over (ending.Violated c) → FoundIn test ds next c) →
        (after_test true counts d (finding b) (after_tests true counts (λ d. finding (test d)) ds next)).phase ≡ Over (ending.Violated c) → FoundIn test (d ∷ ds) next c
    by_test true is ih e = further (ih e)
    by_test false is ih e = inl (subst (λ x. In x (d ∷ ds) × (test x ≡ false)) (same d c e) (here, is))

-- where the run goes on after the tests, it is one of them
broken_here : (counts : ℕ) (test : ℕ → Bool) (cs : List ℕ) (next : Trace) (s : State) (c : ℕ) → next.phase ≡ Going s → (after_tests true counts (λ d. finding (test d)) cs next).phase ≡ Over (ending.Violated c) → In c cs × (test c ≡ false)
broken_here counts test cs next s c goes e = by_case (first_broken counts test cs next c e)
  where
    by_case : FoundIn test cs next c → In c cs × (test c ≡ false)
    by_case (inl i) = i
    by_case (inr e) = absurd (apart (sym goes ∙ e))
      where
        apart : Going s ≡ Over (ending.Violated c) → ⊥
        apart e = cc

not_false : (b : Bool) → not b ≡ false → b ≡ true
not_false true e = refl
not_false false e = cc

module _ (program : Program) (bound : ℕ) (c : ℕ) (s : State) where
  abbrev pub IsBroken : Type 0
  IsBroken = Due program bound c s (kind_of program c) false

  by_call : (k : Option CondKind) (p : ℕ) (args : List Term) → IsCall bound s p args → Contains (pred_of program p).conds c → calls_hold program.grammar args k ≡ false → Due program bound c s k false
  by_call (Some (kind.Calls ds)) p args is has e = subst (Due program bound c s (Some (kind.Calls ds))) e (at_call p args is has)
  by_call (Some (kind.Success pre post)) p args is has e = cc
  by_call (Some (kind.Comp pre property)) p args is has e = cc
  by_call None p args is has e = cc

  by_exit : (k : Option CondKind) (p : ℕ) (args : List Term) (noted : List ℕ) (mark : Option ℕ) → IsExit s p args noted mark → Contains noted c → post_holds program.grammar args k ≡ false → Due program bound c s k false
  by_exit (Some (kind.Success pre post)) p args noted mark is has e = subst (Due program bound c s (Some (kind.Success pre post))) e (at_exit p args noted mark is has)
  by_exit (Some (kind.Calls ds)) p args noted mark is has e = cc
  by_exit (Some (kind.Comp pre property)) p args noted mark is has e = cc
  by_exit None p args noted mark is has e = cc

  by_mark : (k : Option CondKind) (p : ℕ) (args : List Term) (noted : List ℕ) (mark : Option ℕ) (found : Option Choice) → mark_of mark s.choices ≡ found → IsExit s p args noted mark → In c (mark_conds found) → exit_breaks (mark_exited found) k ≡ true → Due program bound c s k false
  by_mark (Some (kind.Comp pre FailsProp)) p args noted mark (Some (Mark q conds exited)) is_found is i e = at_fails p args noted mark exited is (record { pred = q; conds = conds; is = is_found; has = in_contains conds i })
  by_mark (Some (kind.Comp pre IsDet)) p args noted mark (Some (Mark q conds true)) is_found is i e = at_later_exit p args noted mark is (record { pred = q; conds = conds; is = is_found; has = in_contains conds i })
  by_mark (Some (kind.Comp pre IsDet)) p args noted mark (Some (Mark q conds false)) is_found is i e = cc
  by_mark (Some (kind.Comp pre NotFails)) p args noted mark (Some (Mark q conds exited)) is_found is i e = cc
  by_mark (Some (kind.Calls ds)) p args noted mark (Some (Mark q conds exited)) is_found is i e = cc
  by_mark (Some (kind.Success pre post)) p args noted mark (Some (Mark q conds exited)) is_found is i e = cc
  by_mark None p args noted mark (Some (Mark q conds exited)) is_found is i e = cc
  by_mark k p args noted mark (Some (Resume f)) is_found is i e = elim i [ ]
  by_mark k p args noted mark (Some (Try n call)) is_found is i e = elim i [ ]
  by_mark k p args noted mark None is_found is i e = elim i [ ]

  by_failure : (k : Option CondKind) (conds : List ℕ) (exited : Bool) → IsFailure s conds exited → Contains conds c → failure_breaks exited k ≡ true → Due program bound c s k false
  by_failure (Some (kind.Comp pre NotFails)) conds false is has e = at_failure conds is has
  by_failure (Some (kind.Comp pre NotFails)) conds true is has e = cc
  by_failure (Some (kind.Comp pre FailsProp)) conds exited is has e = cc
  by_failure (Some (kind.Comp pre IsDet)) conds exited is has e = cc
  by_failure (Some (kind.Calls ds)) conds exited is has e = cc
  by_failure (Some (kind.Success pre post)) conds exited is has e = cc
  by_failure None conds exited is has e = cc

  abbrev pub Ends : Trace → Type 0
  Ends t = t.phase ≡ Over (ending.Violated c)

  call_broken : (f : Frame) (g : Goal) (h : ℕ) (place : Place) (rest : List Item) (p : ℕ) (args : List Term) → s.current ≡ Doing f → f.items ≡ Does g h place ∷ rest → out-Goal g ≡ CallGoal p args → (b : Bool) → nat_le bound s.calls ≡ b →
      Ends (if b then quietly (Over ending.Bound) else call_made (every_condition program) program bound s p (pred_of program p) args (frame_of rest f)) → IsBroken
  call_broken f g h place rest p args now items goal true le e = cc
  call_broken f g h place rest p args now items goal false le e =
      let i = broken_here 1 (λ c. calls_hold program.grammar args (kind_of program c)) (all_looks program (pred_of program p)).calls _ _ c refl e in
      let has = filter_in (λ c. is_calls (kind_of program c)) (pred_of program p).conds i.0 in
      let may : s.calls < bound = grind (arith, nat_tests) in
      by_call (kind_of program c) p args (record { may = may; frame = f; now = now; first = (g, h, place, rest, items, goal) }) (in_contains (pred_of program p).conds has.0) i.1

  builtin_safe : (e : Effect) (h : ℕ) (place : Place) (rest : Frame) → Ends (builtin_step (every_condition program) program bound s e h place rest) → IsBroken
  builtin_safe Succeeds h place rest e = cc
  builtin_safe Fails h place rest e = cc
  builtin_safe (Writes bytes) h place rest e = cc
  builtin_safe (Equates a b) h place rest e = cc
  builtin_safe (Becomes g) h place rest e = cc
  builtin_safe (Faults kind) h place rest e = cc

  goal_broken : (f : Frame) (g : Goal) (h : ℕ) (place : Place) (rest : List Item) (l : Goal-F Goal) → s.current ≡ Doing f → f.items ≡ Does g h place ∷ rest → out-Goal g ≡ l →
      Ends (goal_step (every_condition program) program bound s l h place (frame_of rest f)) → IsBroken
  goal_broken f g h place rest (CallGoal p args) now items goal e = call_broken f g h place rest p args now items goal (nat_le bound s.calls) refl e
  goal_broken f g h place rest (BuiltinGoal b args) now items goal e = builtin_safe (effect program b (slice_index_or args 0 (term.Atom 0)) (slice_index_or args 1 (term.Atom 0))) h place (frame_of rest f) e
  goal_broken f g h place rest True now items goal e = cc
  goal_broken f g h place rest Fail now items goal e = cc
  goal_broken f g h place rest Cut now items goal e = cc
  goal_broken f g h place rest (Conj a b) now items goal e = cc
  goal_broken f g h place rest (Disj a b) now items goal e = cc
  goal_broken f g h place rest (IfElse t a b) now items goal e = cc
  goal_broken f g h place rest (Not a) now items goal e = cc
  goal_broken f g h place rest Exit now items goal e = cc

  frame_broken : (f : Frame) (items : List Item) → s.current ≡ Doing f → f.items ≡ items → Ends (frame_step (every_condition program) program bound s f items) → IsBroken
  frame_broken f [] now is e = cc
  frame_broken f (Does g h place ∷ rest) now is e = goal_broken f g h place rest (out-Goal g) now is refl e
  frame_broken f (CutTo h ∷ rest) now is e = cc
  frame_broken f (Exits p args noted mark ∷ rest) now is e = by_note (first_broken 1 (λ c. post_holds program.grammar args (kind_of program c)) noted marked c e)
    where
      marked : Trace
      marked = after_tests true 0 (λ c. finding (not (exit_breaks (mark_exited (mark_of mark s.choices)) (kind_of program c)))) (mark_conds (mark_of mark s.choices))
          (quietly (going s (exit_mark mark s.choices) (Doing (frame_of rest f))))

      is_exit : IsExit s p args noted mark
      is_exit = record { frame = f; now = now; first = (rest, is) }

      by_condition : marked.phase ≡ Over (ending.Violated c) → IsBroken
      by_condition e =
          let i = broken_here 0 (λ c. not (exit_breaks (mark_exited (mark_of mark s.choices)) (kind_of program c))) (mark_conds (mark_of mark s.choices)) _ _ c refl e in
          by_mark (kind_of program c) p args noted mark (mark_of mark s.choices) refl is_exit i.0 (not_false _ i.1)

      by_note : FoundIn (λ c. post_holds program.grammar args (kind_of program c)) noted marked c → IsBroken
      by_note (inl i) = by_exit (kind_of program c) p args noted mark is_exit (in_contains noted i.0) i.1
      by_note (inr e) = by_condition e

  try_safe : (clause : Option Clause) (call : Call) (cs : List Choice) → Ends (try_step (every_condition program) program bound s clause call cs) → IsBroken
  try_safe None call cs e = cc
  try_safe (Some clause) call cs e = cc

  failure_broken : (cs : List Choice) → s.current ≡ Failed → s.choices ≡ cs → Ends (failure_step (every_condition program) program bound s cs) → IsBroken
  failure_broken [] now is e = cc
  failure_broken (Resume f ∷ cs) now is e = cc
  failure_broken (Try k call ∷ cs) now is e = try_safe (slice_get (pred_of program call.pred).clauses k) call cs e
  failure_broken (Mark p conds exited ∷ cs) now is e =
      let i = broken_here 0 (λ c. not (failure_breaks exited (kind_of program c))) conds _ _ c refl e in
      by_failure (kind_of program c) conds exited (record { now = now; first = (p, cs, is) }) (in_contains conds i.0) (not_false _ i.1)

  solving_safe : (place : Place) (stage : Stage) (f : Frame) → Ends (solving_step (every_condition program) program bound s place stage f) → IsBroken
  solving_safe place (Open es bs) f e = cc
  solving_safe place (Ended (Solved bs)) f e = cc
  solving_safe place (Ended Clash) f e = cc
  solving_safe place (Ended Cyclic) f e = cc

  current_broken : (cur : Current) → s.current ≡ cur → Ends (step_at (every_condition program) program bound s cur) → IsBroken
  current_broken (Doing f) now e = frame_broken f f.items now refl e
  current_broken (Solving place stage f) now e = solving_safe place stage f e
  current_broken Failed now e = failure_broken s.choices now refl e

  -- a condition that a step breaks is due and does not hold
  pub step_broken : Ends (step (every_condition program) program bound s) → IsBroken
  step_broken e = current_broken s.current refl e
