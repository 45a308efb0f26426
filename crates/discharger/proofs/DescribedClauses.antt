-- A clause that is tried leaves a described state.
use Rattle.std.proofs.Common.{◌≡◌, ℕ, zero, suc, Bool, List, [], ◌∷◌, length, map, refl, ap, sym, ◌∙◌, subst, arith}
use Rattle.std.specs.Prelude.{slice_get, Option, None, Some, Contains}
use Rattle.std.specs.List.{AllByRecursion}
use Rattle.term_core.specs.declared.terms.Term.{Term}
use Rattle.term_core.specs.declared.equations.Binding.{Binding}
use Rattle.term_core.specs.Terms.{instance, higher, rename}
use Rattle.term_core.specs.Unify.{pairs, values}
use Rattle.term_core.specs.Solutions.{Solves}
use Rattle.prog_data.specs.declared.goals.Goal.{Goal}
use Rattle.prog_data.specs.declared.programs.Clause.{Clause}
use Rattle.prog_data.specs.declared.programs.Program.{Program}
use Rattle.prog_data.specs.Goals.{goal_instance, without_exit, pred_of}
use Rattle.prog_data.specs.Values.{TypeValue, IsIn, AreIn}
use Rattle.prog_data.proofs.Leaves.{In, here, later}
use Rattle.prog_data.proofs.MembershipLaws.{in_contains}
use Rattle.name_order.specs.Relations.{order}
use Rattle.type_domain.specs.Laws.{LeqEach}
use Rattle.machine_model.specs.State.{Item, Does, Exits, Call, Choice, State, item_instance}
use Rattle.machine_model.specs.Step.{try_step}
use Rattle.discharger.proofs.Narrowing.{tests_of, narrowing, NarrowingClause, narrowing_clause}
use Rattle.discharger.specs.ReliedOn.{ReliedOn}
use Rattle.goal_transfer.specs.Transfer.{Values, Known, ReachedCall, Outcome, from_known, run_goal, push_each, term_value}
use Rattle.goal_transfer.specs.Tables.{Facts, facts_of, Closed, exits_of, unknown, behind_head, values_known, HasExit, IsReached}
use Rattle.discharger.proofs.InValues.{KnownIn, TheseIn, push_these_in, in_term}
use Rattle.discharger.proofs.InConditions.{are_length}
use Rattle.discharger.proofs.Described.{ExitsAs, FrameDescribed, CallDescribed, ChoiceDescribed}
use Rattle.discharger.proofs.DescribedLaws.{terms_twice, goal_twice, noted_kept, behind_bound, bound}
use Rattle.discharger.proofs.DescribedBuiltins.{IfGoing, solved}
use Rattle.discharger.proofs.DescribedCalls.{row_of, row_exits}

got_in : {A : Type 0} (xs : List A) (k : ℕ) (x : A) → slice_get xs k ≡ Some x → In x xs
got_in [] k x e = cc
got_in {A} (y ∷ xs) zero x e = subst (λ z. In z (y ∷ xs)) (inside y x e) here
  where
    inside : (y x : A) → Some y ≡ Some x → y ≡ x
    inside y x e = cc
got_in (y ∷ xs) (suc k) x e = later (got_in xs k x e)

leq_length : (vs ws : List TypeValue) → LeqEach vs ws → length vs ≡ length ws
leq_length [] [] l = refl
leq_length [] (w ∷ ws) l = absurd l
leq_length (v ∷ vs) [] l = absurd l
leq_length (v ∷ vs) (w ∷ ws) l = ap suc (leq_length vs ws l.1)

map_as_many : {A B : Type 0} (f : A → B) (xs : List A) → length (map f xs) ≡ length xs
map_as_many f [] = refl
map_as_many f (x ∷ xs) = ap suc (map_as_many f xs)

module _ (stops : Bool) (program : Program) (rows : List Facts) where
  abbrev pub runs : Goal → Values → Outcome
  runs = run_goal (order program.grammar) (exits_of (narrowing stops program) (order program.grammar) rows)

  abbrev pub AllReached : List ReachedCall → Type 0
  AllReached calls = AllByRecursion (IsReached rows) calls

module _ (stops : Bool) (program : Program) (rows : List Facts) (relied : ReliedOn program.grammar) (f : ℕ → Term) where
  -- what solves the equations of arguments and a head

  these_same : (args hs : List Term) (ws : List TypeValue) → Solves f (pairs args hs) → AreIn program.grammar (map (instance f) args) ws → TheseIn program.grammar relied f (map (instance f) hs) ws
  these_same [] [] [] e a = tt
  these_same [] (h ∷ hs) [] e a = tt
  these_same [] hs (w ∷ ws) e a = absurd a
  these_same (t ∷ ts) hs [] e a = absurd a
  these_same (t ∷ ts) [] (w ∷ ws) e a = tt
  these_same (t ∷ ts) (h ∷ hs) (w ∷ ws) e a = (subst (λ x. IsIn program.grammar x w) e.0 a.0, these_same ts hs ws e.1 a.1)

  same_all : (args hs : List Term) → length args ≡ length hs → Solves f (pairs args hs) → map (instance f) args ≡ map (instance f) hs
  same_all [] [] l e = refl
  same_all [] (h ∷ hs) l e = cc
  same_all (t ∷ ts) [] l e = cc
  same_all (t ∷ ts) (h ∷ hs) l e = ap (λ x. x ∷ map (instance f) ts) e.0 ∙ ap (λ xs. instance f h ∷ xs) (same_all ts hs (omega (arith, l)) e.1)

module _ (stops : Bool) (program : Program) (rows : List Facts) (relied : ReliedOn program.grammar) (closed : Closed (narrowing stops program) rows) where
  module _ (call : Call) (d : CallDescribed stops program rows call) (clause : Clause) (has : Contains (pred_of program call.pred).clauses clause) (fresh : ℕ) (bs : List Binding) (e : Solves (values bs) (pairs call.args (map (rename fresh) clause.head))) where
    abbrev pub value : ℕ → Term
    value v = instance (values bs) (higher fresh v)

    abbrev pub items : List Item
    items = map (item_instance (values bs)) (Does (goal_instance (higher fresh) (without_exit clause.body)) call.height clause.place ∷ Exits call.pred call.args call.noted call.mark ∷ call.rest.items)

    same_head : length clause.head ≡ (pred_of program call.pred).arity → map (instance value) clause.head ≡ map (instance (values bs)) call.args
    same_head l =
        let as_many = are_length program.grammar call.args (facts_of rows call.pred).entry d.entered ∙ (row_of stops program rows relied closed call.pred d.reached).entry.0 in
        sym (terms_twice (values bs) (higher fresh) clause.head) ∙ sym (same_all stops program rows relied (values bs) call.args (map (rename fresh) clause.head) (as_many ∙ sym l ∙ sym (map_as_many (rename fresh) clause.head)) e)

    exits_as : (k : Known) → HasExit (facts_of rows call.pred) (values_known (order program.grammar) k clause.head) → ExitsAs stops program rows value clause.head k call.pred (map (instance (values bs)) call.args)
    exits_as None h = tt
    exits_as (Some vs) h = (same_head (sym (map_as_many (term_value (order program.grammar) vs) clause.head) ∙ leq_length _ _ h.1 ∙ (row_exits stops program rows relied closed call.pred h.0).exit.0), h)

    -- the frame of the clause, by what is known behind the head
    narrows : NarrowingClause stops program (exits_of (narrowing stops program) (order program.grammar) rows) call.pred clause
    narrows = narrowing_clause program relied stops (exits_of (narrowing stops program) (order program.grammar) rows) call.pred clause has

    by_known : (k : Known) → KnownIn program.grammar value k → AllReached stops program rows (from_known k (runs stops program rows narrows.body)).calls → HasExit (facts_of rows call.pred) (values_known (order program.grammar) (from_known k (runs stops program rows narrows.body)).known clause.head) →
        FrameDescribed stops program rows items
    by_known None b calls exits = absurd b
    by_known (Some vs) b calls exits =
        let same = sym (narrows.comes vs) in
        record {
          value = value;
          head = clause.head;
          known = vs;
          belong = b;
          goes = record {
            goal = without_exit clause.body;
            is = sym (goal_twice (values bs) (higher fresh) (without_exit clause.body));
            calls = subst (λ out. AllReached stops program rows out.calls) same calls;
            goes = record {
              exits = subst (λ k. ExitsAs stops program rows value clause.head k call.pred (map (instance (values bs)) call.args)) (ap (λ out. out.known) same) (exits_as (runs stops program rows narrows.body vs).known exits);
              noted = noted_kept stops program rows relied (values bs) call.pred call.args call.noted d.noted;
              rest = behind_bound stops program rows relied (values bs) _ _ (bound stops program rows relied (values bs) call.rest.items) call.pred call.args d.rest;
            };
          };
        }

    pub clause_frame : FrameDescribed stops program rows items
    clause_frame =
        by_known (push_each (order program.grammar) clause.head d.entry (unknown (order program.grammar)))
        (push_these_in program.grammar relied value clause.head d.entry (subst (λ ts. TheseIn program.grammar relied (values bs) ts d.entry) (terms_twice (values bs) (higher fresh) clause.head) (these_same stops program rows relied (values bs) call.args (map (rename fresh) clause.head) d.entry e (relied.values_persist (values bs) call.args d.entry d.args))) (unknown (order program.grammar)) (λ v. in_term program.grammar relied (value v)))
        (subst (λ ws. AllReached stops program rows (from_known (behind_head (order program.grammar) ws (record clause { body = narrows.body })) (runs stops program rows narrows.body)).calls) d.narrowed (closed.calls call.pred (record clause { body = narrows.body }) d.reached narrows.has))
        (subst (λ ws. HasExit (facts_of rows call.pred) (values_known (order program.grammar) (from_known (behind_head (order program.grammar) ws (record clause { body = narrows.body })) (runs stops program rows narrows.body)).known clause.head)) d.narrowed (closed.exits call.pred (record clause { body = narrows.body }) d.reached narrows.has))

  pub try_keeps : (limit : ℕ) (s : State) (k : ℕ) (call : Call) (cs : List Choice) → AllByRecursion (ChoiceDescribed stops program rows) cs → CallDescribed stops program rows call → (clause : Option Clause) → slice_get (pred_of program call.pred).clauses k ≡ clause →
      IfGoing stops program rows (try_step (tests_of stops program) program limit s clause call cs).phase
  try_keeps limit s k call cs choices d None e = record { choices = choices; current = tt }
  try_keeps limit s k call cs choices d (Some clause) e =
      record {
        choices = choices;
        current = λ j bs ends. clause_frame call d clause (in_contains _ (got_in (pred_of program call.pred).clauses k clause e)) s.fresh bs (solved program.grammar relied (pairs call.args (map (rename s.fresh) clause.head)) j bs ends);
      }
