-- The mark that an exit finds is one of a call of its predicate.
use Rattle.std.proofs.Common.{◌≡◌, ◌⊎◌, inl, inr, ℕ, suc, ◌<◌, ◌≤◌, Bool, true, false, List, [], ◌∷◌, ◌++◌, length, map, refl, ap, sym, ◌∙◌, subst, arith}
use Rattle.std.proofs.lemmas.Bool.Decides.{nat_tests}
use Rattle.std.specs.Prelude.{nat_le, ◌==◌, ◌+◌, not, filter, slice_get, slice_index_or, Option, None, Some, if◌then◌else◌}
use Rattle.term_core.specs.declared.terms.Term.{Term}
use Rattle.term_core.specs.declared.terms.Term as term
use Rattle.term_core.specs.declared.equations.Outcome.TheVariants.{Solved, Clash, Cyclic}
use Rattle.term_core.specs.Unify.{Stage, Open, Ended, values}
use Rattle.prog_data.specs.declared.goals.Goal.{Goal, out-Goal}
use Rattle.prog_data.specs.declared.goals.Goal.TheOpen.{Goal-F, True, Fail, Cut, Call as CallGoal, Builtin as BuiltinGoal, Conj, Disj, IfElse, Not, Exit}
use Rattle.prog_data.specs.declared.events.Ending.TheVariants as ending
use Rattle.prog_data.specs.declared.programs.Clause.{Clause}
use Rattle.prog_data.specs.declared.programs.Pred.{Pred}
use Rattle.prog_data.specs.declared.programs.Place.{Place}
use Rattle.prog_data.specs.declared.programs.Program.{Program}
use Rattle.prog_data.specs.Conditions.{kind_of, calls_hold, pre_holds, post_holds, exit_breaks, failure_breaks}
use Rattle.prog_data.specs.Goals.{pred_of}
use Rattle.machine_model.specs.State.{Item, Does, CutTo, Exits, Frame, Call, Choice, Resume, Try, Mark, Current, Doing, Solving, Failed, State, Going, Over, item_instance, cut, choice_at, exited, exit_mark}
use Rattle.machine_model.specs.Tests.{Tests}
use Rattle.machine_model.specs.Step.{step, step_at, frame_step, goal_step, call_step, call_made, quietly, finding, builtin_step, failure_step, try_step, solving_step, tries, with_mark, mark_height, mark_of, mark_conds, mark_exited, Effect, Succeeds, Fails, Writes, Equates, Becomes, Faults, effect}
use Rattle.machine_model.specs.Run.{start_of}
use Rattle.machine_model.specs.Marks.{MarksOwned}
use Rattle.machine_model.proofs.Invariants.{IfGoing, after_tests_keep, steps_keep}

-- the predicate of a mark, none for another choice
abbrev pub owner : Choice → Option ℕ
owner (Mark p conds exited) = Some p
owner other = None

abbrev pub owners : List Choice → List (Option ℕ)
owners cs = map owner cs

-- the older part of a list
abbrev pub Older : List (Option ℕ) → List (Option ℕ) → Type 0
Older [] js = [] ≡ js
Older (k ∷ ks) js = (k ∷ ks ≡ js) ⊎ Older ks js

whole : (ks : List (Option ℕ)) → Older ks ks
whole [] = refl
whole (k ∷ ks) = inl refl

older_older : (ks js is : List (Option ℕ)) → Older ks js → Older js is → Older ks is
older_older [] js is o q = subst (λ xs. Older xs is) (sym o) q
older_older (k ∷ ks) js is (inl e) q = subst (λ xs. Older xs is) (sym e) q
older_older (k ∷ ks) js is (inr o) q = inr (older_older ks js is o q)

shorter : (ks js : List (Option ℕ)) → Older ks js → length js ≤ length ks
shorter [] js o = let e = ap length o in omega (arith, e)
shorter (k ∷ ks) js (inl e) = let e' = ap length e in omega (arith, e')
shorter (k ∷ ks) js (inr o) = let l = shorter ks js o in omega (arith, l)

owners_length : (cs : List Choice) → length (owners cs) ≡ length cs
owners_length [] = refl
owners_length (c ∷ cs) = ap suc (owners_length cs)

-- a height that leaves these
record Height (ks : List (Option ℕ)) (h : ℕ) : Type 0 where
  left : List (Option ℕ)
  older : Older ks left
  is : h ≡ length left

-- the mark of this height is one of the predicate's
record MarkHeight (ks : List (Option ℕ)) (p h : ℕ) : Type 0 where
  below : List (Option ℕ)
  older : Older ks (Some p ∷ below)
  is : h ≡ length below

abbrev MarkAt : List (Option ℕ) → ℕ → Option ℕ → Type 0
MarkAt ks p None = Unit {0}
MarkAt ks p (Some h) = MarkHeight ks p h

-- heights of items leave choices whose heights come after; and each exit's mark is one of its predicate's
abbrev Fit : List (Option ℕ) → List Item → Type 0
Fit ks [] = Unit {0}
Fit ks (Does g h place ∷ items) = (height : Height ks h) × Fit height.left items
Fit ks (CutTo h ∷ items) = (height : Height ks h) × Fit height.left items
Fit ks (Exits p args noted mark ∷ items) = MarkAt ks p mark × Fit ks items

abbrev height_over : (ks js : List (Option ℕ)) (h : ℕ) → Older ks js → Height js h → Height ks h
height_over ks js h o d = record { left = d.left; older = older_older ks js d.left o d.older; is = d.is }

mark_over : (ks js : List (Option ℕ)) (p : ℕ) (m : Option ℕ) → Older ks js → MarkAt js p m → MarkAt ks p m
mark_over ks js p None o d = tt
mark_over ks js p (Some h) o d = record { below = d.below; older = older_older ks js (Some p ∷ d.below) o d.older; is = d.is }

fit_over : (ks js : List (Option ℕ)) (items : List Item) → Older ks js → Fit js items → Fit ks items
fit_over ks js [] o d = tt
fit_over ks js (Does g h place ∷ items) o d = (height_over ks js h o d.0, d.1)
fit_over ks js (CutTo h ∷ items) o d = (height_over ks js h o d.0, d.1)
fit_over ks js (Exits p args noted mark ∷ items) o d = (mark_over ks js p mark o d.0, fit_over ks js items o d.1)

fit_instance : (f : ℕ → Term) (ks : List (Option ℕ)) (items : List Item) → Fit ks items → Fit ks (map (item_instance f) items)
fit_instance f ks [] d = tt
fit_instance f ks (Does g h place ∷ items) d = (d.0, fit_instance f d.0.left items d.1)
fit_instance f ks (CutTo h ∷ items) d = (d.0, fit_instance f d.0.left items d.1)
fit_instance f ks (Exits p args noted mark ∷ items) d = (d.0, fit_instance f ks items d.1)

-- a call of which clauses are still to be tried
record CallFits (ks : List (Option ℕ)) (call : Call) : Type 0 where
  height : Height ks call.height
  mark : MarkAt height.left call.pred call.mark
  rest : Fit height.left call.rest.items

call_over : (ks js : List (Option ℕ)) (call : Call) → Older ks js → CallFits js call → CallFits ks call
call_over ks js call o d = record { height = height_over ks js call.height o d.height; mark = d.mark; rest = d.rest }

abbrev ChoicesFit : List Choice → Type 0
ChoicesFit [] = Unit {0}
ChoicesFit (Resume f ∷ cs) = Fit (owners cs) f.items × ChoicesFit cs
ChoicesFit (Try k call ∷ cs) = CallFits (owners cs) call × ChoicesFit cs
ChoicesFit (Mark p conds exited ∷ cs) = ChoicesFit cs

abbrev CurrentFits : List (Option ℕ) → Current → Type 0
CurrentFits ks (Doing f) = Fit ks f.items
CurrentFits ks (Solving place stage f) = Fit ks f.items
CurrentFits ks Failed = Unit {0}

record StateFits (s : State) : Type 0 where
  choices : ChoicesFit s.choices
  current : CurrentFits (owners s.choices) s.current

-- cuts

rest_fits : (c : Choice) (cs : List Choice) → ChoicesFit (c ∷ cs) → ChoicesFit cs
rest_fits (Resume f) cs d = d.1
rest_fits (Try k call) cs d = d.1
rest_fits (Mark p conds e) cs d = d

cut_fits : (h : ℕ) (cs : List Choice) → ChoicesFit cs → ChoicesFit (cut h cs)
cut_fits h [] d = tt
cut_fits h (c ∷ cs) d = by_test (nat_le h (length cs)) (cut_fits h cs (rest_fits c cs d))
  where
    by_test : (b : Bool) → ChoicesFit (cut h cs) → ChoicesFit (if b then cut h cs else c ∷ cs)
    by_test true r = r
    by_test false r = d

cut_owners : (h : ℕ) (js : List (Option ℕ)) (cs : List Choice) → Older (owners cs) js → h ≡ length js → owners (cut h cs) ≡ js
cut_owners h js [] o e = o
cut_owners h js (c ∷ cs) (inl same) e =
    let l : length js ≡ suc (length cs) = ap length (sym same) ∙ ap suc (owners_length cs) in
    let more : nat_le h (length cs) ≡ false = grind (arith, nat_tests, e, l) in
    ap (λ b. owners (if b then cut h cs else c ∷ cs)) more ∙ same
cut_owners h js (c ∷ cs) (inr o) e =
    let s = shorter (owners cs) js o in
    let l = owners_length cs in
    let le : h ≤ length cs = omega (arith, s, l, e) in
    let fits : nat_le h (length cs) ≡ true = grind (arith, nat_tests, le) in
    ap (λ b. owners (if b then cut h cs else c ∷ cs)) fits ∙ cut_owners h js cs o e

cut_state : (n fresh h : ℕ) (cs : List Choice) (f : Frame) → ChoicesFit cs → (d : Height (owners cs) h) → Fit d.left f.items → StateFits (record { calls = n; fresh = fresh; choices = cut h cs; current = Doing f })
cut_state n fresh h cs f choices d fit = record { choices = cut_fits h cs choices; current = subst (λ ks. Fit ks f.items) (sym (cut_owners h d.left cs d.older d.is)) fit }

-- exits

exited_owner : (c : Choice) → owner (exited c) ≡ owner c
exited_owner (Resume f) = refl
exited_owner (Try k call) = refl
exited_owner (Mark p conds e) = refl

exit_owners : (m : Option ℕ) (cs : List Choice) → owners (exit_mark m cs) ≡ owners cs
exit_owners None cs = refl
exit_owners (Some h) [] = refl
exit_owners (Some h) (c ∷ cs) = by_test (h == length cs) (exit_owners (Some h) cs)
  where
    by_test : (b : Bool) → owners (exit_mark (Some h) cs) ≡ owners cs → owners (if b then exited c ∷ cs else c ∷ exit_mark (Some h) cs) ≡ owners (c ∷ cs)
    by_test true r = ap (λ k. k ∷ owners cs) (exited_owner c)
    by_test false r = ap (λ ks. owner c ∷ ks) r

exited_fits : (c : Choice) (cs : List Choice) → ChoicesFit (c ∷ cs) → ChoicesFit (exited c ∷ cs)
exited_fits (Resume f) cs d = d
exited_fits (Try k call) cs d = d
exited_fits (Mark p conds e) cs d = d

over_same : (c : Choice) (cs ds : List Choice) → owners ds ≡ owners cs → ChoicesFit (c ∷ cs) → ChoicesFit ds → ChoicesFit (c ∷ ds)
over_same (Resume f) cs ds e d r = (subst (λ ks. Fit ks f.items) (sym e) d.0, r)
over_same (Try k call) cs ds e d r = (subst (λ ks. CallFits ks call) (sym e) d.0, r)
over_same (Mark p conds x) cs ds e d r = r

exit_fits : (m : Option ℕ) (cs : List Choice) → ChoicesFit cs → ChoicesFit (exit_mark m cs)
exit_fits None cs d = d
exit_fits (Some h) [] d = d
exit_fits (Some h) (c ∷ cs) d = by_test (h == length cs) (exit_fits (Some h) cs (rest_fits c cs d))
  where
    by_test : (b : Bool) → ChoicesFit (exit_mark (Some h) cs) → ChoicesFit (if b then exited c ∷ cs else c ∷ exit_mark (Some h) cs)
    by_test true r = exited_fits c cs d
    by_test false r = over_same c cs (exit_mark (Some h) cs) (exit_owners (Some h) cs) d r

-- calls

older_tries : (k : ℕ) (clauses : List Clause) (call : Call) (cs : List Choice) → Older (owners (tries k clauses call ++ cs)) (owners cs)
older_tries k [] call cs = whole (owners cs)
older_tries k (c ∷ clauses) call cs = inr (older_tries (suc k) clauses call cs)

tries_fit : (k : ℕ) (clauses : List Clause) (call : Call) (cs : List Choice) → CallFits (owners cs) call → ChoicesFit cs → ChoicesFit (tries k clauses call ++ cs)
tries_fit k [] call cs d r = r
tries_fit k (c ∷ clauses) call cs d r = (call_over _ (owners cs) call (older_tries (suc k) clauses call cs) d, tries_fit (suc k) clauses call cs d r)

mark_fits : (p : ℕ) (marked : List ℕ) (cs : List Choice) → ChoicesFit cs → ChoicesFit (with_mark p marked cs)
mark_fits p [] cs d = d
mark_fits p (c ∷ conds) cs d = d

older_mark : (p : ℕ) (marked : List ℕ) (cs : List Choice) → Older (owners (with_mark p marked cs)) (owners cs)
older_mark p [] cs = whole (owners cs)
older_mark p (c ∷ conds) cs = inr (whole (owners cs))

mark_there : (p : ℕ) (marked : List ℕ) (cs : List Choice) → MarkAt (owners (with_mark p marked cs)) p (mark_height marked cs)
mark_there p [] cs = tt
mark_there p (c ∷ conds) cs = record { below = owners cs; older = inl refl; is = sym (owners_length cs) }

module _ (what : Tests) (program : Program) (bound : ℕ) where
  call_keeps : (s : State) (p : ℕ) (pred : Pred) (args : List Term) (rest : Frame) → ChoicesFit s.choices → Fit (owners s.choices) rest.items → IfGoing StateFits (call_step what program bound s p pred args rest).phase
  call_keeps s p pred args rest choices fit = by_bound (nat_le bound s.calls)
    where
      marked : List ℕ
      marked = filter (λ c. pre_holds program.grammar args (kind_of program c)) (what.looks pred).marks

      call : Call
      call = record { pred = p; args = args; noted = filter (λ c. pre_holds program.grammar args (kind_of program c)) (what.looks pred).notes; mark = mark_height marked s.choices; height = length (with_mark p marked s.choices); rest = rest }

      made : IfGoing StateFits (call_made what program bound s p pred args rest).phase
      made =
          after_tests_keep StateFits what.stops 1 (λ c. finding (calls_hold program.grammar args (kind_of program c))) (what.looks pred).calls
          (record { events = []; tests = length (what.looks pred).notes + length (what.looks pred).marks; phase = Going (record { calls = suc s.calls; fresh = s.fresh; choices = tries 0 pred.clauses call ++ with_mark p marked s.choices; current = Failed }) })
          (record {
            choices = tries_fit 0 pred.clauses call (with_mark p marked s.choices)
                (record {
                  height = record { left = owners (with_mark p marked s.choices); older = whole _; is = sym (owners_length _) };
                  mark = mark_there p marked s.choices;
                  rest = fit_over _ (owners s.choices) rest.items (older_mark p marked s.choices) fit;
                })
                (mark_fits p marked s.choices choices);
            current = tt;
          })

      by_bound : (b : Bool) → IfGoing StateFits (if b then quietly (Over ending.Bound) else call_made what program bound s p pred args rest).phase
      by_bound true = tt
      by_bound false = made

  -- steps

  builtin_keeps : (s : State) (e : Effect) (h : ℕ) (place : Place) (rest : Frame) → ChoicesFit s.choices → (d : Height (owners s.choices) h) → Fit d.left rest.items → IfGoing StateFits (builtin_step what program bound s e h place rest).phase
  builtin_keeps s Succeeds h place rest choices d fit = record { choices = choices; current = fit_over (owners s.choices) d.left rest.items d.older fit }
  builtin_keeps s Fails h place rest choices d fit = record { choices = choices; current = tt }
  builtin_keeps s (Writes bytes) h place rest choices d fit = record { choices = choices; current = fit_over (owners s.choices) d.left rest.items d.older fit }
  builtin_keeps s (Equates a b) h place rest choices d fit = record { choices = choices; current = fit_over (owners s.choices) d.left rest.items d.older fit }
  builtin_keeps s (Becomes g) h place rest choices d fit = record { choices = choices; current = (d, fit) }
  builtin_keeps s (Faults kind) h place rest choices d fit = tt

  -- a height that leaves what there is
  abbrev here : (ks : List (Option ℕ)) (h : ℕ) → h ≡ length ks → Height ks h
  here ks h e = record { left = ks; older = whole ks; is = e }

  goal_keeps : (s : State) (x : Goal-F Goal) (h : ℕ) (place : Place) (rest : Frame) → ChoicesFit s.choices → (d : Height (owners s.choices) h) → Fit d.left rest.items → IfGoing StateFits (goal_step what program bound s x h place rest).phase
  goal_keeps s True h place rest choices d fit = record { choices = choices; current = fit_over (owners s.choices) d.left rest.items d.older fit }
  goal_keeps s Fail h place rest choices d fit = record { choices = choices; current = tt }
  goal_keeps s Cut h place rest choices d fit = cut_state s.calls s.fresh h s.choices rest choices d fit
  goal_keeps s Exit h place rest choices d fit = record { choices = choices; current = fit_over (owners s.choices) d.left rest.items d.older fit }
  goal_keeps s (CallGoal p args) h place rest choices d fit = call_keeps s p (pred_of program p) args rest choices (fit_over (owners s.choices) d.left rest.items d.older fit)
  goal_keeps s (BuiltinGoal b args) h place rest choices d fit = builtin_keeps s (effect program b (slice_index_or args 0 (term.Atom 0)) (slice_index_or args 1 (term.Atom 0))) h place rest choices d fit
  goal_keeps s (Conj a b) h place rest choices d fit = record { choices = choices; current = (d, (here d.left h d.is, fit)) }
  goal_keeps s (Disj a b) h place rest choices d fit = record { choices = ((d, fit), choices); current = (height_over (None ∷ owners s.choices) (owners s.choices) h (inr (whole (owners s.choices))) d, fit) }
  goal_keeps s (IfElse c a b) h place rest choices d fit =
      record {
        choices = ((d, fit), choices);
        current = (here (None ∷ owners s.choices) _ (ap suc (sym (owners_length s.choices))), (record { left = owners s.choices; older = inr (whole (owners s.choices)); is = sym (owners_length s.choices) }, (d, fit)));
      }
  goal_keeps s (Not a) h place rest choices d fit =
      record {
        choices = (fit_over (owners s.choices) d.left rest.items d.older fit, choices);
        current = (here (None ∷ owners s.choices) _ (ap suc (sym (owners_length s.choices))), (record { left = owners s.choices; older = inr (whole (owners s.choices)); is = sym (owners_length s.choices) }, (d, fit)));
      }

  frame_keeps : (s : State) (f : Frame) (items : List Item) → ChoicesFit s.choices → Fit (owners s.choices) items → IfGoing StateFits (frame_step what program bound s f items).phase
  frame_keeps s f [] choices fit = record { choices = choices; current = tt }
  frame_keeps s f (Does g h place ∷ items) choices fit = goal_keeps s (out-Goal g) h place (record f { items = items }) choices fit.0 fit.1
  frame_keeps s f (CutTo h ∷ items) choices fit = cut_state s.calls s.fresh h s.choices (record f { items = items }) choices fit.0 fit.1
  frame_keeps s f (Exits p args noted mark ∷ items) choices fit =
      after_tests_keep StateFits what.stops 1 (λ c. finding (post_holds program.grammar args (kind_of program c))) noted _
      (after_tests_keep StateFits what.stops 0 (λ c. finding (not (exit_breaks (mark_exited (mark_of mark s.choices)) (kind_of program c)))) (mark_conds (mark_of mark s.choices))
      (quietly (Going (record s { choices = exit_mark mark s.choices; current = Doing (record f { items = items }) })))
      (record { choices = exit_fits mark s.choices choices; current = subst (λ ks. Fit ks items) (sym (exit_owners mark s.choices)) fit.1 }))

  try_keeps : (s : State) (clause : Option Clause) (call : Call) (cs : List Choice) → ChoicesFit cs → CallFits (owners cs) call → IfGoing StateFits (try_step what program bound s clause call cs).phase
  try_keeps s None call cs choices d = record { choices = choices; current = tt }
  try_keeps s (Some clause) call cs choices d = record { choices = choices; current = (d.height, by_exit (what.exits clause.body)) }
    where
      by_exit : (b : Bool) → Fit d.height.left (if b then Exits call.pred call.args call.noted call.mark ∷ call.rest.items else call.rest.items)
      by_exit true = (d.mark, d.rest)
      by_exit false = d.rest

  failure_keeps : (s : State) (cs : List Choice) → ChoicesFit cs → IfGoing StateFits (failure_step what program bound s cs).phase
  failure_keeps s [] d = tt
  failure_keeps s (Resume f ∷ cs) d = record { choices = d.1; current = d.0 }
  failure_keeps s (Try k call ∷ cs) d = try_keeps s (slice_get (pred_of program call.pred).clauses k) call cs d.1 d.0
  failure_keeps s (Mark p conds exited ∷ cs) d =
      after_tests_keep StateFits what.stops 0 (λ c. finding (not (failure_breaks exited (kind_of program c)))) conds (quietly (Going (record s { choices = cs; current = Failed }))) (record { choices = d; current = tt })

  solving_keeps : (s : State) (place : Place) (stage : Stage) (f : Frame) → ChoicesFit s.choices → Fit (owners s.choices) f.items → IfGoing StateFits (solving_step what program bound s place stage f).phase
  solving_keeps s place (Open es bs) f choices d = record { choices = choices; current = d }
  solving_keeps s place (Ended (Solved bs)) f choices d = record { choices = choices; current = fit_instance (values bs) (owners s.choices) f.items d }
  solving_keeps s place (Ended Clash) f choices d = record { choices = choices; current = tt }
  solving_keeps s place (Ended Cyclic) f choices d = tt

  current_keeps : (s : State) (c : Current) → ChoicesFit s.choices → CurrentFits (owners s.choices) c → IfGoing StateFits (step_at what program bound s c).phase
  current_keeps s (Doing f) choices d = frame_keeps s f f.items choices d
  current_keeps s (Solving place stage f) choices d = solving_keeps s place stage f choices d
  current_keeps s Failed choices d = failure_keeps s s.choices choices

  step_fits : (s : State) → StateFits s → IfGoing StateFits (step what program bound s).phase
  step_fits s d = current_keeps s s.current d.choices d.current

  start_fits : (p : ℕ) (query : Term) → StateFits (start_of p query)
  start_fits p query = record { choices = tt; current = (here [] 0 refl, tt) }

-- a mark that is found

found_owner : (h p q : ℕ) (js : List (Option ℕ)) (conds : List ℕ) (e : Bool) (cs : List Choice) → Older (owners cs) (Some p ∷ js) → h ≡ length js → choice_at h cs ≡ Some (Mark q conds e) → q ≡ p
found_owner h p q js conds e [] o is found = cc
found_owner h p q js conds e (c ∷ cs) (inl same) is found =
    let tails : owners cs ≡ js = inside same in
    let l : length cs ≡ length js = sym (owners_length cs) ∙ ap length tails in
    let here : (h == length cs) ≡ true = grind (arith, nat_tests, is, l) in
    by_choice c (first same) (sym (ap (λ b. if b then Some c else choice_at h cs) here) ∙ found)
  where
    inside : {k l : Option ℕ} {ks ls : List (Option ℕ)} → k ∷ ks ≡ l ∷ ls → ks ≡ ls
    inside e = cc

    first : {k l : Option ℕ} {ks ls : List (Option ℕ)} → k ∷ ks ≡ l ∷ ls → k ≡ l
    first e = cc

    by_choice : (c : Choice) → owner c ≡ Some p → Some c ≡ Some (Mark q conds e) → q ≡ p
    by_choice (Resume f) o f' = cc
    by_choice (Try k call) o f' = cc
    by_choice (Mark q' conds' e') o f' = let same : q' ≡ q = cc in sym same ∙ inner o
      where
        inner : Some q' ≡ Some p → q' ≡ p
        inner o = cc
found_owner h p q js conds e (c ∷ cs) (inr o) is found =
    let s = shorter (owners cs) (Some p ∷ js) o in
    let l = owners_length cs in
    let less : h < length cs = omega (arith, s, l, is) in
    let other : (h == length cs) ≡ false = grind (arith, nat_tests, less) in
    found_owner h p q js conds e cs o is (sym (ap (λ b. if b then Some c else choice_at h cs) other) ∙ found)

pub marks_owned : (what : Tests) (program : Program) → MarksOwned what program
marks_owned what program bound s p args noted mark q conds e reached exit found =
    let fits : StateFits s = subst (IfGoing StateFits) reached.reaches.phase (steps_keep what program bound StateFits (step_fits what program bound) reached.reaches.count (Going (start_of reached.pred reached.query)) (start_fits what program bound reached.pred reached.query)) in
    let at_exit : Fit (owners s.choices) (Exits p args noted mark ∷ exit.first.0) = subst (Fit (owners s.choices)) exit.first.1 (subst (CurrentFits (owners s.choices)) exit.now fits.current) in
    by_mark mark at_exit.0 found
  where
    by_mark : (m : Option ℕ) → MarkAt (owners s.choices) p m → mark_of m s.choices ≡ Some (Mark q conds e) → q ≡ p
    by_mark None d f = cc
    by_mark (Some h) d f = found_owner h p q d.below conds e s.choices d.older d.is f
