-- Each state that the run of a query that meets an entry reaches is described, and what a described state is about to call or to exit, the table has.
use Rattle.std.proofs.Common.{◌≡◌, ℕ, zero, suc, ◌+◌, Bool, true, false, ◌&&◌, List, [], ◌∷◌, length, map, refl, ap, sym, ◌∙◌, subst, arith, true≢false}
use Rattle.std.proofs.lemmas.Bool.Decides.{nat_tests}
use Rattle.std.specs.Prelude.{◌==◌, find, slice_get, slice_index_or, Option, None, Some, if◌then◌else◌, IsTrue}
use Rattle.std.specs.Option.{option_map_or}
use Rattle.std.specs.List.{AllByRecursion}
use Rattle.term_core.specs.declared.terms.Term.{Term, Var, out-Term}
use Rattle.term_core.specs.declared.terms.Term.TheOpen as term_layer
use Rattle.term_core.specs.Terms.{instance, instance_step}
use Rattle.term_core.proofs.TermFolds.{fold-Var}
use Rattle.prog_data.specs.declared.goals.Goal.{Goal, out-Goal, roll-Goal, roll-out-Goal}
use Rattle.prog_data.specs.declared.goals.Goal as goal
use Rattle.prog_data.specs.declared.goals.Goal.TheOpen as layer
use Rattle.prog_data.specs.declared.goals.Goal.TheFolds.{fold-roll-Goal, map-Goal}
use Rattle.prog_data.proofs.GoalFolds.{fold-Call}
use Rattle.prog_data.specs.declared.programs.Pred.{Pred}
use Rattle.prog_data.specs.declared.programs.Program.{Program}
use Rattle.prog_data.specs.Conditions.{all_hold}
use Rattle.term_core.specs.Shapes.{parts_of}
use Rattle.prog_data.specs.Goals.{goal_instance, goal_instance_step, no_pred, pred_of, calls_pred, is_called, called_by, meets_entry}
use Rattle.prog_data.specs.Values.{TypeValue, IsIn, AreIn}
use Rattle.prog_data.proofs.Leaves.{any_in}
use Rattle.prog_data.proofs.MembershipLaws.{in_contains}
use Rattle.name_order.specs.Relations.{order}
use Rattle.type_domain.specs.Values.{term_name, of_name}
use Rattle.type_domain.specs.Laws.{LeqEach}
use Rattle.machine_model.specs.State.{Does, Exits, State, Going}
use Rattle.machine_model.specs.Run.{nowhere, start_of}
use Rattle.machine_model.specs.Points.{IsCall, IsExit, Reached}
use Rattle.discharger.proofs.Narrowing.{tests_of, narrowing, same_arity}
use Rattle.discharger.specs.ReliedOn.{ReliedOn}
use Rattle.goal_transfer.specs.Transfer.{Values, Known, Outcome, term_value_step, term_value, outcome_step, run_goal}
use Rattle.goal_transfer.specs.Conditions.{types_of}
use Rattle.goal_transfer.specs.Tables.{Facts, facts_of, Closed, exits_of, IsReached}
use Rattle.discharger.proofs.InValues.{AllIn, in_term, in_values}
use Rattle.goal_transfer.proofs.Lengths.{both}
use Rattle.discharger.proofs.InConditions.{are_length, are_set, types_in}
use Rattle.discharger.proofs.Described.{ExitsAs, NotedAt, GoalDescribed, FrameDescribed, CurrentDescribed, StateDescribed}
use Rattle.discharger.proofs.DescribedBuiltins.{IfGoing, goal_by}
use Rattle.discharger.proofs.DescribedCalls.{are_lower}
use Rattle.discharger.proofs.DescribedGoals.{layer_instance, out_instance}
use Rattle.discharger.proofs.DescribedSteps.{steps_keep}

-- a variable for each argument

abbrev variables : ℕ → List Term → List Term
variables first [] = []
variables first (t ∷ ts) = Var first ∷ variables (first + 1) ts

index_of : {A : Type 0} (xs : List A) (j : ℕ) (x d : A) → slice_get xs j ≡ Some x → slice_index_or xs j d ≡ x
index_of [] j x d e = cc
index_of {A} (y ∷ xs) zero x d e = inside y x e
  where
    inside : (y x : A) → Some y ≡ Some x → y ≡ x
    inside y x e = cc
index_of (y ∷ xs) (suc j) x d e = index_of xs j x d e

variables_are : (value : ℕ → Term) (first : ℕ) (args : List Term) → ((j : ℕ) (t : Term) → slice_get args j ≡ Some t → value (first + j) ≡ t) → map (instance value) (variables first args) ≡ args
variables_are value first [] h = refl
variables_are value first (t ∷ ts) h =
    let start : first + 0 ≡ first = omega arith in
    ap (λ x. x ∷ map (instance value) (variables (first + 1) ts)) (fold-Var _ (instance_step value) first ∙ ap value (sym start) ∙ h 0 t refl)
    ∙ ap (λ xs. t ∷ xs) (variables_are value (first + 1) ts (λ j u e. let next : first + 1 + j ≡ first + suc j = omega arith in ap value next ∙ h (suc j) u e))

module _ (stops : Bool) (program : Program) (rows : List Facts) (relied : ReliedOn program.grammar) where
  values_are : (known : Values) (first : ℕ) (args : List Term) (types : List TypeValue) → length args ≡ length types → ((j : ℕ) (w : TypeValue) → slice_get types j ≡ Some w → known (first + j) ≡ w) →
      map (term_value (order program.grammar) known) (variables first args) ≡ types
  values_are known first [] [] l h = refl
  values_are known first [] (w ∷ ws) l h = cc
  values_are known first (t ∷ ts) [] l h = cc
  values_are known first (t ∷ ts) (w ∷ ws) l h =
      let start : first + 0 ≡ first = omega arith in
      ap (λ x. x ∷ map (term_value (order program.grammar) known) (variables (first + 1) ts)) (fold-Var _ (term_value_step (order program.grammar) known) first ∙ ap known (sym start) ∙ h 0 w refl)
      ∙ ap (λ xs. w ∷ xs) (values_are known (first + 1) ts ws (omega (arith, l)) (λ j u e. let next : first + 1 + j ≡ first + suc j = omega arith in ap known next ∙ h (suc j) u e))

  index_in : (args : List Term) (types : List TypeValue) → AreIn program.grammar args types → (v : ℕ) → IsIn program.grammar (slice_index_or args v (Var 0)) (slice_index_or types v (of_name (order program.grammar) term_name))
  index_in [] [] a v = in_term program.grammar relied (Var 0)
  index_in [] (w ∷ ws) a v = absurd a
  index_in (t ∷ ts) [] a v = absurd a
  index_in (t ∷ ts) (w ∷ ws) a zero = a.0
  index_in (t ∷ ts) (w ∷ ws) a (suc v) = index_in ts ws a.1 v

  -- the frame of a call whose arguments are in types that its row has
  start_frame : (p : ℕ) (args : List Term) (types : List TypeValue) → AreIn program.grammar args types → IsReached rows (p, types) → FrameDescribed stops program rows (Does (goal.Call p args) 0 nowhere ∷ [])
  start_frame p args types a reached =
      let zero_left : (j : ℕ) → 0 + j ≡ j = λ j. omega arith in
      record {
        value = value;
        head = [];
        known = known;
        belong = index_in args types a;
        goes = goal_by stops program rows _ value known (goal.Call p (variables 0 args)) _
            (fold-Call _ (goal_instance_step value) p (variables 0 args) ∙ ap (goal.Call p) (variables_are value 0 args (λ j t e. ap value (zero_left j) ∙ index_of args j t (Var 0) e)))
            _ (ap (λ f. f known) (fold-Call _ (outcome_step (order program.grammar) (exits_of (narrowing stops program) (order program.grammar) rows)) p (variables 0 args)))
            ((reached.0, subst (λ ws. LeqEach ws (facts_of rows p).entry) (sym (values_are known 0 args types (are_length program.grammar args types a) (λ j w e. ap known (zero_left j) ∙ index_of types j w (of_name (order program.grammar) term_name) e))) reached.1), tt)
            tt;
      }
    where
      value : ℕ → Term
      value v = slice_index_or args v (Var 0)

      known : Values
      known v = slice_index_or types v (of_name (order program.grammar) term_name)

-- the query of a run calls a predicate with as many arguments as it has

found_holds : (p : ℕ → Bool) (xs : List ℕ) (x : ℕ) → find p xs ≡ Some x → p x ≡ true
found_holds p [] x e = cc
found_holds p (y ∷ xs) x e = by_test (p y) refl e (found_holds p xs x)
  where
    by_test : (b : Bool) → p y ≡ b → (if b then Some y else find p xs) ≡ Some x → (find p xs ≡ Some x → p x ≡ true) → p x ≡ true
    by_test true h e rest = let same : y ≡ x = cc in subst (λ z. p z ≡ true) same h
    by_test false h e rest = rest e

as_many_parts : (pred : Pred) (x : term_layer.Term-F Term) → calls_pred pred x ≡ true → length (parts_of x) ≡ pred.arity
as_many_parts pred (term_layer.Atom a) e = let b = (both (a == pred.name) _ e).1 in grind (arith, nat_tests, b)
as_many_parts pred (term_layer.Node f ts) e = let b = (both (f == pred.name) _ e).1 in grind (arith, nat_tests, b)
as_many_parts pred (term_layer.Var v) e = absurd (true≢false (sym e))
as_many_parts pred (term_layer.Int n) e = absurd (true≢false (sym e))

called_parts : (program : Program) (query : Term) (p : ℕ) → called_by program query ≡ Some p → length (parts_of (out-Term query)) ≡ (pred_of program p).arity
called_parts program query p e = by_pred (slice_get program.preds p) refl (found_holds (is_called program query) program.exports p e)
  where
    by_pred : (found : Option Pred) → slice_get program.preds p ≡ found → option_map_or (λ pred. calls_pred pred (out-Term query)) found false ≡ true → length (parts_of (out-Term query)) ≡ (pred_of program p).arity
    by_pred None get e = absurd (true≢false (sym e))
    by_pred (Some pred) get e = as_many_parts pred (out-Term query) e ∙ ap (λ q. q.arity) (sym (index_of program.preds p pred no_pred get))

module _ (stops : Bool) (program : Program) (rows : List Facts) (relied : ReliedOn program.grammar) (closed : Closed (narrowing stops program) rows) where
  start_described : (p : ℕ) (query : Term) → called_by program query ≡ Some p → meets_entry program p (parts_of (out-Term query)) ≡ true → StateDescribed stops program rows (start_of p query)
  start_described p query calls meets =
      let args = parts_of (out-Term query) in
      let m = any_in (λ e. (e.pred == p) && all_hold program.grammar args e.pre) program.entries meets in
      let b = both (m.0.pred == p) _ m.2 in
      let same : m.0.pred ≡ p = (let e = b.0 in grind (arith, nat_tests, e)) in
      let as_many : length (parts_of (out-Term query)) ≡ (pred_of (narrowing stops program) m.0.pred).arity = called_parts program query p calls ∙ ap (λ q. (pred_of program q).arity) (sym same) ∙ sym (same_arity stops program m.0.pred) in
      let types = types_of (order program.grammar) (pred_of (narrowing stops program) m.0.pred).arity m.0.pre in
      let a : AreIn program.grammar args types = types_in program.grammar relied args m.0.pre (pred_of (narrowing stops program) m.0.pred).arity as_many b.1 in
      record { choices = tt; current = subst (λ q. FrameDescribed stops program rows (Does (goal.Call q (parts_of (out-Term query))) 0 nowhere ∷ [])) same (start_frame stops program rows relied m.0.pred args types a (closed.entries m.0 (in_contains program.entries m.1) (are_set program.grammar args types a))) }

  -- each state that is reached is described
  pub reached_described : (limit : ℕ) (s : State) → Reached (tests_of stops program) program limit s → StateDescribed stops program rows s
  reached_described limit s r = subst (IfGoing stops program rows) r.reaches.phase (steps_keep stops program rows relied closed limit r.reaches.count (Going (start_of r.pred r.query)) (start_described r.pred r.query r.calls r.meets))

  -- what it is about to call
  call_of : (value : ℕ → Term) (known : Values) → AllIn program.grammar value known → (Goes : Known → Type 0) (h : Goal) (p : ℕ) (args : List Term) → out-Goal h ≡ layer.Call p args → GoalDescribed stops program rows Goes value (Some known) h →
      IsTrue (facts_of rows p).reached × AreIn program.grammar args (facts_of rows p).entry
  call_of value known belong Goes h p args e d = at_layer (out-Goal d.goal) (roll-out-Goal d.goal)
    where
      at_layer : (x : layer.Goal-F Goal) → roll-Goal x ≡ d.goal → IsTrue (facts_of rows p).reached × AreIn program.grammar args (facts_of rows p).entry
      at_layer x r = by_layer x (sym (ap out-Goal (sym d.is) ∙ ap (λ g. out-Goal (goal_instance value g)) (sym r) ∙ out_instance value x) ∙ e)
          (subst (λ out. AllByRecursion (IsReached rows) out.calls) (ap (λ g. run_goal (order program.grammar) (exits_of (narrowing stops program) (order program.grammar) rows) g known) (sym r) ∙ ap (λ f. f known) (fold-roll-Goal (Values → Outcome) (outcome_step (order program.grammar) (exits_of (narrowing stops program) (order program.grammar) rows)) x)) d.calls)
        where
          by_layer : (x : layer.Goal-F Goal) → layer_instance value x ≡ layer.Call p args →
              AllByRecursion (IsReached rows) (outcome_step (order program.grammar) (exits_of (narrowing stops program) (order program.grammar) rows) (map-Goal Goal (Values → Outcome) (run_goal (order program.grammar) (exits_of (narrowing stops program) (order program.grammar) rows)) x) known).calls →
              IsTrue (facts_of rows p).reached × AreIn program.grammar args (facts_of rows p).entry
          by_layer (layer.Call q ts) s calls =
              let name : q ≡ p = cc in
              let terms : map (instance value) ts ≡ args = cc in
              let here = subst (λ q. IsReached rows (q, map (term_value (order program.grammar) known) ts)) name calls.0 in
              (here.0, subst (λ ts. AreIn program.grammar ts (facts_of rows p).entry) terms (are_lower stops program rows relied _ _ _ (in_values program.grammar relied value known belong ts) here.1))
          by_layer layer.True s calls = cc
          by_layer layer.Fail s calls = cc
          by_layer layer.Cut s calls = cc
          by_layer layer.Exit s calls = cc
          by_layer (layer.Builtin b ts) s calls = cc
          by_layer (layer.Conj a b) s calls = cc
          by_layer (layer.Disj a b) s calls = cc
          by_layer (layer.IfElse c a b) s calls = cc
          by_layer (layer.Not a) s calls = cc

  pub call_described : (limit : ℕ) (s : State) (p : ℕ) (args : List Term) → StateDescribed stops program rows s → IsCall limit s p args → IsTrue (facts_of rows p).reached × AreIn program.grammar args (facts_of rows p).entry
  call_described limit s p args d c =
      let f = c.first in
      let frame : FrameDescribed stops program rows (Does f.0 f.1 f.2 ∷ f.3) = subst (FrameDescribed stops program rows) f.4 (subst (CurrentDescribed stops program rows) c.now d.current) in
      call_of frame.value frame.known frame.belong _ f.0 p args f.5 frame.goes

  -- what it is about to exit
  pub record ExitOf (p : ℕ) (args : List Term) (noted : List ℕ) : Type 0 where
    pub exits : IsTrue (facts_of rows p).exits
    pub args_in : AreIn program.grammar args (facts_of rows p).exit
    pub notes : NotedAt stops program rows p args noted

  exit_args : (value : ℕ → Term) (known : Values) → AllIn program.grammar value known → (head : List Term) (p : ℕ) (args : List Term) → ExitsAs stops program rows value head (Some known) p args → AreIn program.grammar args (facts_of rows p).exit
  exit_args value known belong head p args e =
      subst (λ ts. AreIn program.grammar ts (facts_of rows p).exit) e.0
      (are_lower stops program rows relied (map (instance value) head) (map (term_value (order program.grammar) known) head) (facts_of rows p).exit (in_values program.grammar relied value known belong head) e.1.1)

  pub exit_described : (s : State) (p : ℕ) (args : List Term) (noted : List ℕ) (mark : Option ℕ) → StateDescribed stops program rows s → IsExit s p args noted mark → ExitOf p args noted
  exit_described s p args noted mark d c =
      let frame : FrameDescribed stops program rows (Exits p args noted mark ∷ c.first.0) = subst (FrameDescribed stops program rows) c.first.1 (subst (CurrentDescribed stops program rows) c.now d.current) in
      record { exits = frame.goes.exits.1.0; args_in = exit_args frame.value frame.known frame.belong frame.head p args frame.goes.exits; notes = frame.goes.noted }
