-- Each run ends: the calls that are left, and between two calls a weight of what is to be done.
use Rattle.std.proofs.Common.{◌≡◌, ℕ, zero, suc, ◌+◌, ◌-◌, ◌<◌, ◌≤◌, Bool, true, false, List, [], ◌∷◌, map, length, refl, ap, sym, ◌∙◌, subst, arith}
use Rattle.std.proofs.lemmas.Bool.Decides.{nat_tests}
use Rattle.std.specs.Prelude.{slice_get, slice_index_or, nat_le, ◌==◌, Option, None, Some, if◌then◌else◌, ℤ, Ok, Err}
use Rattle.term_core.specs.declared.terms.Term.{Term}
use Rattle.term_core.specs.declared.terms.Term as term
use Rattle.term_core.specs.declared.equations.Outcome.{Outcome}
use Rattle.term_core.specs.declared.equations.Outcome.TheVariants.{Solved, Clash, Cyclic}
use Rattle.term_core.specs.Terms.{higher}
use Rattle.term_core.specs.Unify.{Stage, Open, Ended, solve, solves, values}
use Rattle.prog_data.specs.declared.goals.Builtin.{Builtin}
use Rattle.prog_data.specs.declared.goals.Builtin.TheVariants as builtin
use Rattle.prog_data.specs.declared.goals.Goal.{Goal, out-Goal, roll-Goal, roll-out-Goal}
use Rattle.prog_data.specs.declared.goals.Goal as goal
use Rattle.prog_data.specs.declared.goals.Goal.TheOpen.{Goal-F, True, Fail, Cut, Call as CallGoal, Builtin as BuiltinGoal, Conj, Disj, IfElse, Not, Exit}
use Rattle.prog_data.specs.declared.goals.Goal.TheFolds.{fold-Goal, fold-roll-Goal}
use Rattle.prog_data.proofs.GoalFolds.{ind_goals, fold-True, fold-Fail, fold-Cut, fold-Call, fold-Builtin, fold-Conj, fold-Disj, fold-IfElse, fold-Not, fold-Exit}
use Rattle.prog_data.specs.declared.programs.Clause.{Clause}
use Rattle.prog_data.specs.declared.programs.Pred.{Pred}
use Rattle.prog_data.specs.declared.programs.Place.{Place}
use Rattle.prog_data.specs.declared.programs.Program.{Program}
use Rattle.prog_data.specs.declared.events.Ending.{Ending}
use Rattle.prog_data.specs.declared.events.Ending.TheVariants as ending
use Rattle.prog_data.specs.Arithmetic.{Number, value}
use Rattle.prog_data.specs.Goals.{pred_of, without_exit, goal_instance, goal_instance_step}
use Rattle.machine_model.specs.State.{Item, Does, CutTo, Exits, Frame, Call, Choice, Resume, Try, Mark, Current, Doing, Solving, Failed, State, Phase, Going, Over, Trace, item_instance, cut, exited, exit_mark}
use Rattle.machine_model.specs.Tests.{Tests}
use Rattle.machine_model.specs.Step.{step, frame_step, goal_step, call_step, call_made, quietly, builtin_step, failure_step, try_step, solving_step, truth, with_value, compare, Effect, Succeeds, Fails, Writes, Equates, Becomes, Faults, effect}
use Rattle.machine_model.specs.Run.{steps}
use Rattle.machine_model.specs.Laws.{Ends}
use Rattle.machine_model.proofs.Invariants.{IfGoing, after_tests_keep}
use Rattle.term_core.proofs.UnifyEnds.{stage_ends}

-- weights of goals: x is the weight of what comes after

abbrev pub builtin_weight : Builtin → ℕ → ℕ
builtin_weight builtin.NotUnify x = x + x + 8
builtin_weight other x = x + 2

abbrev pub goal_weight_step : Goal-F (ℕ → ℕ) → ℕ → ℕ
goal_weight_step True x = x + 1
goal_weight_step Fail x = x + 1
goal_weight_step Cut x = x + 1
goal_weight_step (CallGoal p ts) x = x + 1
goal_weight_step (BuiltinGoal b ts) x = builtin_weight b x
goal_weight_step (Conj a b) x = a (b x) + 1
goal_weight_step (Disj a b) x = a x + b x + 2
goal_weight_step (IfElse c a b) x = c (a x + 1) + b x + 2
goal_weight_step (Not a) x = a (x + 1 + 1) + x + 2
goal_weight_step Exit x = x + 1

abbrev pub goal_weight : Goal → ℕ → ℕ
goal_weight = fold-Goal (ℕ → ℕ) goal_weight_step

-- by the outermost construct
abbrev pub layer_weight : Goal-F Goal → ℕ → ℕ
layer_weight True = goal_weight_step True
layer_weight Fail = goal_weight_step Fail
layer_weight Cut = goal_weight_step Cut
layer_weight (CallGoal p ts) = goal_weight_step (CallGoal p ts)
layer_weight (BuiltinGoal b ts) = goal_weight_step (BuiltinGoal b ts)
layer_weight (Conj a b) = goal_weight_step (Conj (goal_weight a) (goal_weight b))
layer_weight (Disj a b) = goal_weight_step (Disj (goal_weight a) (goal_weight b))
layer_weight (IfElse c a b) = goal_weight_step (IfElse (goal_weight c) (goal_weight a) (goal_weight b))
layer_weight (Not a) = goal_weight_step (Not (goal_weight a))
layer_weight Exit = goal_weight_step Exit

rolled : (l : Goal-F Goal) → goal_weight (roll-Goal l) ≡ layer_weight l
rolled True = fold-roll-Goal (ℕ → ℕ) goal_weight_step True
rolled Fail = fold-roll-Goal (ℕ → ℕ) goal_weight_step Fail
rolled Cut = fold-roll-Goal (ℕ → ℕ) goal_weight_step Cut
rolled (CallGoal p ts) = fold-roll-Goal (ℕ → ℕ) goal_weight_step (CallGoal p ts)
rolled (BuiltinGoal b ts) = fold-roll-Goal (ℕ → ℕ) goal_weight_step (BuiltinGoal b ts)
rolled (Conj a b) = fold-roll-Goal (ℕ → ℕ) goal_weight_step (Conj a b)
rolled (Disj a b) = fold-roll-Goal (ℕ → ℕ) goal_weight_step (Disj a b)
rolled (IfElse c a b) = fold-roll-Goal (ℕ → ℕ) goal_weight_step (IfElse c a b)
rolled (Not a) = fold-roll-Goal (ℕ → ℕ) goal_weight_step (Not a)
rolled Exit = fold-roll-Goal (ℕ → ℕ) goal_weight_step Exit

outermost : (g : Goal) (x : ℕ) → goal_weight g x ≡ layer_weight (out-Goal g) x
outermost g x = ap (λ g. goal_weight g x) (sym (roll-out-Goal g)) ∙ ap (λ w. w x) (rolled (out-Goal g))

-- an instance weighs the same
same_weight : (v : ℕ → Term) (g : Goal) → goal_weight (goal_instance v g) ≡ goal_weight g
same_weight v = ind_goals (λ g. goal_weight (goal_instance v g) ≡ goal_weight g)
    (ap goal_weight (fold-True Goal (goal_instance_step v)))
    (ap goal_weight (fold-Fail Goal (goal_instance_step v)))
    (ap goal_weight (fold-Cut Goal (goal_instance_step v)))
    (λ p ts. ap goal_weight (fold-Call Goal (goal_instance_step v) p ts) ∙ fold-Call (ℕ → ℕ) goal_weight_step p _ ∙ sym (fold-Call (ℕ → ℕ) goal_weight_step p ts))
    (λ b ts. ap goal_weight (fold-Builtin Goal (goal_instance_step v) b ts) ∙ fold-Builtin (ℕ → ℕ) goal_weight_step b _ ∙ sym (fold-Builtin (ℕ → ℕ) goal_weight_step b ts))
    (λ a b p q. ap goal_weight (fold-Conj Goal (goal_instance_step v) a b) ∙ fold-Conj (ℕ → ℕ) goal_weight_step _ _ ∙ ap (λ w. goal_weight_step (Conj w (goal_weight (goal_instance v b)))) p ∙ ap (λ w. goal_weight_step (Conj (goal_weight a) w)) q ∙ sym (fold-Conj (ℕ → ℕ) goal_weight_step a b))
    (λ a b p q. ap goal_weight (fold-Disj Goal (goal_instance_step v) a b) ∙ fold-Disj (ℕ → ℕ) goal_weight_step _ _ ∙ ap (λ w. goal_weight_step (Disj w (goal_weight (goal_instance v b)))) p ∙ ap (λ w. goal_weight_step (Disj (goal_weight a) w)) q ∙ sym (fold-Disj (ℕ → ℕ) goal_weight_step a b))
    (λ c a b o p q. ap goal_weight (fold-IfElse Goal (goal_instance_step v) c a b) ∙ fold-IfElse (ℕ → ℕ) goal_weight_step _ _ _ ∙ ap (λ w. goal_weight_step (IfElse w (goal_weight (goal_instance v a)) (goal_weight (goal_instance v b)))) o ∙ ap (λ w. goal_weight_step (IfElse (goal_weight c) w (goal_weight (goal_instance v b)))) p ∙ ap (λ w. goal_weight_step (IfElse (goal_weight c) (goal_weight a) w)) q ∙ sym (fold-IfElse (ℕ → ℕ) goal_weight_step c a b))
    (λ a p. ap goal_weight (fold-Not Goal (goal_instance_step v) a) ∙ fold-Not (ℕ → ℕ) goal_weight_step _ ∙ ap (λ w. goal_weight_step (Not w)) p ∙ sym (fold-Not (ℕ → ℕ) goal_weight_step a))
    (ap goal_weight (fold-Exit Goal (goal_instance_step v)))

-- weights of items, choices and states

abbrev pub items_weight : List Item → ℕ
items_weight [] = 1
items_weight (Does g h place ∷ items) = goal_weight g (items_weight items)
items_weight (CutTo h ∷ items) = items_weight items + 1
items_weight (Exits p args noted mark ∷ items) = items_weight items + 1

same_items : (v : ℕ → Term) (items : List Item) → items_weight (map (item_instance v) items) ≡ items_weight items
same_items v [] = refl
same_items v (Does g h place ∷ items) = ap (λ w. w (items_weight (map (item_instance v) items))) (same_weight v g) ∙ ap (goal_weight g) (same_items v items)
same_items v (CutTo h ∷ items) = ap (λ n. n + 1) (same_items v items)
same_items v (Exits p args noted mark ∷ items) = ap (λ n. n + 1) (same_items v items)

abbrev pub effect_weight : Effect → ℕ → ℕ
effect_weight Succeeds x = x
effect_weight Fails x = 0
effect_weight (Writes bytes) x = x
effect_weight (Equates a b) x = x + 1
effect_weight (Becomes g) x = goal_weight g x
effect_weight (Faults kind) x = 0

abbrev Light : ℕ → Effect → Type 0
Light x e = effect_weight e x < x + 2

truth_light : (x : ℕ) (b : Bool) → Light x (truth b)
truth_light x true = omega arith
truth_light x false = omega arith

value_light : (x : ℕ) (f : ℤ → Effect) (v : Number) → ((n : ℤ) → Light x (f n)) → Light x (with_value f v)
value_light x f (Ok n) h = h n
value_light x f (Err fault) h = omega arith

compare_light : (x : ℕ) (test : ℤ → ℤ → Bool) (a b : Term) → Light x (compare test a b)
compare_light x test a b = value_light x _ (value a) (λ m. value_light x _ (value b) (λ n. truth_light x (test m n)))

not_weight : (ts : List Term) (x : ℕ) → goal_weight (goal.Not (goal.Builtin builtin.Unify ts)) x ≡ x + 1 + 1 + 2 + x + 2
not_weight ts x = ap (λ w. w x) (fold-Not (ℕ → ℕ) goal_weight_step (goal.Builtin builtin.Unify ts)) ∙ ap (λ w. w (x + 1 + 1) + x + 2) (fold-Builtin (ℕ → ℕ) goal_weight_step builtin.Unify ts)

module _ (what : Tests) (program : Program) (bound : ℕ) where
  effect_light : (b : Builtin) (s t : Term) (x : ℕ) → effect_weight (effect program b s t) x < builtin_weight b x
  effect_light builtin.Unify s t x = omega arith
  effect_light builtin.NotUnify s t x = omega (arith, not_weight (s ∷ t ∷ []) x)
  effect_light builtin.Same s t x = truth_light x _
  effect_light builtin.NotSame s t x = truth_light x _
  effect_light builtin.Is s t x = value_light x _ (value t) (λ n. omega arith)
  effect_light builtin.Less s t x = compare_light x _ s t
  effect_light builtin.Greater s t x = compare_light x _ s t
  effect_light builtin.LessEq s t x = compare_light x _ s t
  effect_light builtin.GreaterEq s t x = compare_light x _ s t
  effect_light builtin.NumEq s t x = compare_light x _ s t
  effect_light builtin.NumNotEq s t x = compare_light x _ s t
  effect_light builtin.Integer s t x = truth_light x _
  effect_light builtin.Atom s t x = truth_light x _
  effect_light builtin.Write s t x = omega arith
  effect_light builtin.Writeq s t x = omega arith
  effect_light builtin.Nl s t x = omega arith
  effect_light (builtin.Belongs n) s t x = truth_light x _
  effect_light builtin.IsVar s t x = truth_light x _
  effect_light builtin.IsNonvar s t x = truth_light x _
  effect_light builtin.IsGround s t x = truth_light x _

  -- the items behind a clause's body
  abbrev pub behind : Clause → Call → List Item
  behind clause call = if what.exits clause.body then Exits call.pred call.args call.noted call.mark ∷ call.rest.items else call.rest.items

  abbrev pub try_weight : Option Clause → Call → ℕ
  try_weight None call = 1
  try_weight (Some clause) call = goal_weight (without_exit clause.body) (items_weight (behind clause call)) + 2

  abbrev pub choice_weight : Choice → ℕ
  choice_weight (Resume f) = items_weight f.items + 1
  choice_weight (Try k call) = try_weight (slice_get (pred_of program call.pred).clauses k) call
  choice_weight (Mark p conds exited) = 1

  abbrev pub choices_weight : List Choice → ℕ
  choices_weight [] = 0
  choices_weight (c ∷ cs) = choice_weight c + choices_weight cs

  abbrev pub current_weight : Current → ℕ
  current_weight (Doing f) = items_weight f.items
  current_weight (Solving place stage f) = items_weight f.items + 1
  current_weight Failed = 0

  abbrev pub state_weight : State → ℕ
  state_weight s = choices_weight s.choices + current_weight s.current

  cut_light : (h : ℕ) (cs : List Choice) → choices_weight (cut h cs) ≤ choices_weight cs
  cut_light h [] = omega arith
  cut_light h (c ∷ cs) = by_test (nat_le h (length cs)) (cut_light h cs)
    where
      by_test : (b : Bool) → choices_weight (cut h cs) ≤ choices_weight cs → choices_weight (if b then cut h cs else c ∷ cs) ≤ choice_weight c + choices_weight cs
      by_test true le = omega (arith, le)
      by_test false le = omega arith

  exited_same : (c : Choice) → choice_weight (exited c) ≡ choice_weight c
  exited_same (Resume f) = refl
  exited_same (Try k call) = refl
  exited_same (Mark p conds e) = refl

  exit_same : (m : Option ℕ) (cs : List Choice) → choices_weight (exit_mark m cs) ≡ choices_weight cs
  exit_same None cs = refl
  exit_same (Some h) [] = refl
  exit_same (Some h) (c ∷ cs) = by_test (h == length cs) (exit_same (Some h) cs)
    where
      by_test : (b : Bool) → choices_weight (exit_mark (Some h) cs) ≡ choices_weight cs → choices_weight (if b then exited c ∷ cs else c ∷ exit_mark (Some h) cs) ≡ choice_weight c + choices_weight cs
      by_test true e = ap (λ n. n + choices_weight cs) (exited_same c)
      by_test false e = ap (λ n. choice_weight c + n) e

  -- a state with as many calls and less weight, or with one call more
  pub data Less (c m : ℕ) (s : State) : Type 0 where
    falls : s.calls ≡ c → state_weight s < m → Less c m s
    makes : s.calls ≡ suc c → c < bound → Less c m s

  module _ (c m : ℕ) where
    abbrev Falls : Trace → Type 0
    Falls t = IfGoing (Less c m) t.phase

    call_falls : (s : State) (p : ℕ) (pred : Pred) (args : List Term) (rest : Frame) → s.calls ≡ c → Falls (call_step what program bound s p pred args rest)
    call_falls s p pred args rest same = by_bound (nat_le bound s.calls) refl
      where
        by_bound : (b : Bool) → nat_le bound s.calls ≡ b → Falls (if b then quietly (Over ending.Bound) else call_made what program bound s p pred args rest)
        by_bound true e = tt
        by_bound false e =
            let below : c < bound = grind (arith, nat_tests) in
            let next : (cs : List Choice) → Less c m (record { calls = suc s.calls; fresh = s.fresh; choices = cs; current = Failed }) = λ cs. makes (ap suc same) below in
            search (after_tests_keep, next)

    builtin_falls : (s : State) (e : Effect) (h : ℕ) (place : Place) (rest : Frame) → s.calls ≡ c → choices_weight s.choices + effect_weight e (items_weight rest.items) < m → Falls (builtin_step what program bound s e h place rest)
    builtin_falls s Succeeds h place rest same big = falls same big
    builtin_falls s Fails h place rest same big = falls same big
    builtin_falls s (Writes bytes) h place rest same big = falls same big
    builtin_falls s (Equates a b) h place rest same big = falls same big
    builtin_falls s (Becomes g) h place rest same big = falls same big
    builtin_falls s (Faults kind) h place rest same big = tt

    goal_falls : (s : State) (l : Goal-F Goal) (h : ℕ) (place : Place) (rest : Frame) → s.calls ≡ c → choices_weight s.choices + layer_weight l (items_weight rest.items) ≤ m → Falls (goal_step what program bound s l h place rest)
    goal_falls s True h place rest same big = falls same (omega (arith, big))
    goal_falls s Fail h place rest same big = falls same (omega (arith, big))
    goal_falls s Cut h place rest same big = falls same (omega (arith, big, cut_light h s.choices))
    goal_falls s (CallGoal p args) h place rest same big = call_falls s p (pred_of program p) args rest same
    goal_falls s (BuiltinGoal b args) h place rest same big =
        let light = effect_light b (slice_index_or args 0 (term.Atom 0)) (slice_index_or args 1 (term.Atom 0)) (items_weight rest.items) in
        builtin_falls s _ h place rest same (omega (arith, big, light))
    goal_falls s (Conj a b) h place rest same big = falls same (omega (arith, big))
    goal_falls s (Disj a b) h place rest same big = falls same (omega (arith, big))
    goal_falls s (IfElse t a b) h place rest same big = falls same (omega (arith, big))
    goal_falls s (Not a) h place rest same big =
        let fails : goal_weight goal.Fail (items_weight rest.items) ≡ items_weight rest.items + 1 = ap (λ w. w (items_weight rest.items)) (fold-Fail (ℕ → ℕ) goal_weight_step) in
        let first : goal_weight a (goal_weight goal.Fail (items_weight rest.items) + 1) ≡ goal_weight a (items_weight rest.items + 1 + 1) = ap (λ n. goal_weight a (n + 1)) fails in
        falls same (omega (arith, big, first))
    goal_falls s Exit h place rest same big = falls same (omega (arith, big))

    frame_falls : (s : State) (f : Frame) (items : List Item) → s.calls ≡ c → choices_weight s.choices + items_weight items ≤ m → Falls (frame_step what program bound s f items)
    frame_falls s f [] same big = falls same (omega (arith, big))
    frame_falls s f (Does g h place ∷ items) same big = let is = outermost g (items_weight items) in goal_falls s (out-Goal g) h place _ same (omega (arith, big, is))
    frame_falls s f (CutTo h ∷ items) same big = falls same (omega (arith, big, cut_light h s.choices))
    frame_falls s f (Exits p args noted mark ∷ items) same big =
        let is = exit_same mark s.choices in
        let next : Less c m (record s { choices = exit_mark mark s.choices; current = Doing (record f { items = items }) }) = falls same (omega (arith, big, is)) in
        search (after_tests_keep, next)

    try_falls : (s : State) (clause : Option Clause) (call : Call) (cs : List Choice) → s.calls ≡ c → try_weight clause call + choices_weight cs ≤ m → Falls (try_step what program bound s clause call cs)
    try_falls s None call cs same big = falls same (omega (arith, big))
    try_falls s (Some clause) call cs same big =
        let is = ap (λ w. w (items_weight (behind clause call))) (same_weight (higher s.fresh) (without_exit clause.body)) in
        falls same (omega (arith, big, is))

    failure_falls : (s : State) (cs : List Choice) → s.calls ≡ c → choices_weight cs ≤ m → Falls (failure_step what program bound s cs)
    failure_falls s [] same big = tt
    failure_falls s (Resume f ∷ cs) same big = falls same (omega (arith, big))
    failure_falls s (Try k call ∷ cs) same big = try_falls s (slice_get (pred_of program call.pred).clauses k) call cs same big
    failure_falls s (Mark p conds e ∷ cs) same big =
        let next : Less c m (record s { choices = cs; current = Failed }) = falls same (omega (arith, big)) in
        search (after_tests_keep, next)

    solved_falls : (s : State) (place : Place) (o : Outcome) (f : Frame) → s.calls ≡ c → choices_weight s.choices + (items_weight f.items + 1) ≤ m → Falls (solving_step what program bound s place (Ended o) f)
    solved_falls s place (Solved bs) f same big = let is = same_items (values bs) f.items in falls same (omega (arith, big, is))
    solved_falls s place Clash f same big = falls same (omega (arith, big))
    solved_falls s place Cyclic f same big = tt

  -- after some steps the run is over
  abbrev pub Halts : Phase → Type 0
  Halts p = (k : ℕ) × (e : Ending) × ((steps what program bound k p).phase ≡ Over e)

  from_step : (s : State) → Halts (step what program bound s).phase → Halts (Going s)
  from_step s h = (suc h.0, h.1, h.2)

  after_fall : (c m : ℕ) (p : Phase) → IfGoing (Less c m) p → ((s : State) → s.calls ≡ c → state_weight s < m → Halts (Going s)) → ((s : State) → s.calls ≡ suc c → c < bound → Halts (Going s)) → Halts p
  after_fall c m (Over e) h lighter called = (0, e, refl)
  after_fall c m (Going s) (falls same less) lighter called = lighter s same less
  after_fall c m (Going s) (makes same below) lighter called = called s same below

  module _ (c fresh : ℕ) (cs : List Choice) (place : Place) (f : Frame) where
    abbrev solving : Stage → State
    solving stage = record { calls = c; fresh = fresh; choices = cs; current = Solving place stage f }

    once_solved : (k : ℕ) (stage : Stage) (o : Outcome) → solves k stage ≡ Ended o → Halts (Going (solving (Ended o))) → Halts (Going (solving stage))
    once_solved zero stage o is h = subst (λ stage. Halts (Going (solving stage))) (sym is) h
    once_solved (suc k) (Open es bs) o is h = from_step (solving (Open es bs)) (once_solved k (solve (Open es bs)) o is h)
    once_solved (suc k) (Ended o') o is h = once_solved k (Ended o') o is h

  halts : (n m c fresh : ℕ) (cs : List Choice) (cur : Current) → bound - c < n → choices_weight cs + current_weight cur < m → Halts (Going (record { calls = c; fresh = fresh; choices = cs; current = cur }))
  halts zero m c fresh cs cur few light = absurd (omega (arith, few))
  halts (suc n) zero c fresh cs cur few light = absurd (omega (arith, light))
  halts (suc n) (suc m) c fresh cs (Doing f) few light =
      from_step (record { calls = c; fresh = fresh; choices = cs; current = Doing f }) (after_fall c m _ (frame_falls c m (record { calls = c; fresh = fresh; choices = cs; current = Doing f }) f f.items refl (omega (arith, light)))
      (λ s same less. halts (suc n) m s.calls s.fresh s.choices s.current (omega (arith, few, same)) less)
      (λ s same below. halts n (suc (state_weight s)) s.calls s.fresh s.choices s.current (omega (arith, few, same, below)) (omega arith)))
  halts (suc n) (suc m) c fresh cs Failed few light =
      from_step (record { calls = c; fresh = fresh; choices = cs; current = Failed }) (after_fall c m _ (failure_falls c m (record { calls = c; fresh = fresh; choices = cs; current = Failed }) cs refl (omega (arith, light)))
      (λ s same less. halts (suc n) m s.calls s.fresh s.choices s.current (omega (arith, few, same)) less)
      (λ s same below. halts n (suc (state_weight s)) s.calls s.fresh s.choices s.current (omega (arith, few, same, below)) (omega arith)))
  halts (suc n) (suc m) c fresh cs (Solving place stage f) few light =
      let e = stage_ends stage in
      once_solved c fresh cs place f e.0 stage e.1 e.2
      (from_step (solving c fresh cs place f (Ended e.1)) (after_fall c m _ (solved_falls c m (solving c fresh cs place f (Ended e.1)) place e.1 f refl (omega (arith, light)))
      (λ s same less. halts (suc n) m s.calls s.fresh s.choices s.current (omega (arith, few, same)) less)
      (λ s same below. halts n (suc (state_weight s)) s.calls s.fresh s.choices s.current (omega (arith, few, same, below)) (omega arith))))

pub ends : (what : Tests) (program : Program) → Ends what program
ends what program bound s =
    let h = halts what program bound (suc (bound - s.calls)) (suc (state_weight what program bound s)) s.calls s.fresh s.choices s.current (omega arith) (omega arith) in
    let t = steps what program bound h.0 (Going s) in
    (t.events, t.tests, h.1, record { count = h.0; trace = λ i. record { events = t.events; tests = t.tests; phase = h.2 i } })
