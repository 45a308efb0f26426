-- From values that the analysis keeps come such values.
use Rattle.std.proofs.Common.{◌≡◌, ℕ, zero, suc, ◌+◌, ◌<◌, ◌≤◌, take, Bool, true, false, ◌&&◌, List, [], ◌∷◌, ◌++◌, length, map, refl, ap, sym, ◌∙◌, subst, arith, true≢false}
use Rattle.std.proofs.lemmas.Bool.Decides.{nat_tests}
use Rattle.std.specs.Prelude.{ℤ, nat_lt, ◌==◌, slice_index_or, Option, None, Some, if◌then◌else◌}
use Rattle.std.specs.Ordering.{int_eq}
use Rattle.std.specs.List.{list_all, AllByRecursion}
use Rattle.term_core.specs.declared.terms.Term.{Term, Var, Int, Atom, Node, out-Term}
use Rattle.term_core.specs.declared.terms.Term as term
use Rattle.term_core.specs.declared.terms.Term.TheOpen as layer
use Rattle.term_core.proofs.TermFolds.{fold-Var, fold-Int, fold-Atom, fold-Node, ind_terms}
use Rattle.prog_data.specs.declared.basic_names.TheConstants.{GND_TYPE, INT_TYPE, ATM_TYPE}
use Rattle.prog_data.specs.declared.goals.Builtin.{Builtin as BuiltinName}
use Rattle.prog_data.specs.declared.goals.Builtin.TheVariants as builtin
use Rattle.prog_data.specs.declared.goals.Goal.{Goal}
use Rattle.prog_data.specs.declared.goals.Goal as goal
use Rattle.prog_data.proofs.GoalFolds.{fold-True, fold-Fail, fold-Cut, fold-Call, fold-Builtin, fold-Conj, fold-Disj, fold-IfElse, fold-Not, fold-Exit, ind_goals}
use Rattle.prog_data.specs.declared.programs.Program.{Program}
use Rattle.prog_data.specs.Goals.{pred_of}
use Rattle.prog_data.specs.Ranges.{is_pred_of, is_builtin_of, is_type_test, is_call_of, is_goal_of, goal_step as in_range}
use Rattle.prog_data.specs.Values.{TypeValue}
use Rattle.prog_data.specs.declared.grammars.Grammar.{Grammar}
use Rattle.prog_data.specs.GrammarRange.{IsGrammar}
use Rattle.name_order.specs.Relations.{Order, order}
use Rattle.type_domain.specs.Values.{is_set, IsValue, where_fits, join, of_name, build, project}
use Rattle.type_domain.specs.Laws.{GiveValues}
use Rattle.goal_transfer.specs.Transfer.{Values, Known, then_known, known_where, set_value, in_turn, term_value_step, term_value, push_parts, push_step, push, push_each, Unifier, push_both, int_with, atom_with, unify_parts, node_with, unifier_step, unify_values, ground_step, ground, compare_values, builtin_effect, Outcome, Exits, from_known, then_outcome, join_known, either_outcome, behind_call, outcome_step, run_goal}
use Rattle.goal_transfer.specs.Range.{IsGiven, AllGiven, KnownGiven, CallGiven, ExitsGiven, OutcomeGiven}
use Rattle.goal_transfer.proofs.Lengths.{both}
use Rattle.goal_transfer.proofs.Unifiers.{unifier}

pub map_count : {A B : Type 0} (f : A → B) (xs : List A) → length (map f xs) ≡ length xs
map_count f [] = refl
map_count f (x ∷ xs) = ap suc (map_count f xs)

taken : {A : Type 0} (k : ℕ) (xs : List A) → length (take k xs) ≤ length xs
taken zero xs = omega arith
taken (suc k) [] = omega arith
taken (suc k) (x ∷ xs) = let l = taken k xs in omega (arith, l)

pub ten_names : (g : Grammar) → IsGrammar g → 10 ≤ length g.rules
ten_names g is = let ten : length (take 10 g.rules) ≡ 10 = ap length is.basic in let le = taken 10 g.rules in omega (arith, ten, le)

-- a grammar has at least ten names
pub many_names : (g : Grammar) → IsGrammar g → (n : ℕ) → n < 10 → n < (order g).size
many_names g is n lt = let l = ten_names g is in omega (arith, lt, l)

-- the type that a test names is one of the grammar
type_in : (size type : ℕ) (ts : List Term) → 10 ≤ size → is_type_test size type ts ≡ true → type < size
type_in size type [] ten e = absurd (true≢false (sym e))
type_in size type (t ∷ []) ten e = let lt : type < 10 = grind (arith, nat_tests, e) in omega (arith, lt, ten)
type_in size type (t ∷ u ∷ []) ten e = let b = (both (nat_lt type size) _ e).0 in grind (arith, nat_tests, b)
type_in size type (t ∷ u ∷ w ∷ ts) ten e = absurd (true≢false (sym e))

pub type_named : (size : ℕ) (b : BuiltinName) (ts : List Term) → 10 ≤ size → is_builtin_of size b ts ≡ true → (n : ℕ) → b ≡ builtin.Belongs n → n < size
type_named size b ts ten e n is = type_in size n ts ten (subst (λ b. is_builtin_of size b ts ≡ true) is e)

all_both : {A : Type 0} (P : A → Type 0) (xs ys : List A) → AllByRecursion P xs → AllByRecursion P ys → AllByRecursion P (xs ++ ys)
all_both P [] ys h k = k
all_both P (x ∷ xs) ys h k = (h.0, all_both P xs ys h.1 k)

built_set : (b : Bool) (p : ℕ → Bool) → b ≡ true → is_set (where_fits b (Some p)) ≡ true
built_set true p e = refl
built_set false p e = absurd (true≢false (sym e))

module _ (o : Order) (given : GiveValues o) (names : (n : ℕ) → n < 10 → n < o.size) where
  values_of : (vs : List TypeValue) → AllByRecursion (IsGiven o) vs → AllByRecursion (IsValue o) vs
  values_of [] h = tt
  values_of (v ∷ vs) h = (h.0.0, values_of vs h.1)

  all_set_of : (vs : List TypeValue) → AllByRecursion (IsGiven o) vs → list_all is_set vs ≡ true
  all_set_of [] h = refl
  all_set_of (v ∷ vs) h = ap (λ b. b && list_all is_set vs) h.0.1 ∙ all_set_of vs h.1

  then_given : (k : Known) (go : Values → Known) → KnownGiven o k → ((vs : Values) → AllGiven o vs → KnownGiven o (go vs)) → KnownGiven o (then_known k go)
  then_given None go h rest = tt
  then_given (Some vs) go h rest = rest vs h

  where_given : (b : Bool) (vs : Values) → AllGiven o vs → KnownGiven o (known_where b vs)
  where_given true vs a = a
  where_given false vs a = tt

  set_given : (vs : Values) (v : ℕ) (x : TypeValue) → AllGiven o vs → IsValue o x → KnownGiven o (set_value vs v x)
  set_given vs v None a h = tt
  set_given vs v (Some p) a h = λ u. by_test (v == u) u
    where
      by_test : (b : Bool) (u : ℕ) → IsGiven o (if b then Some p else vs u)
      by_test true u = (h, refl)
      by_test false u = a u

  each_given : (vs : Values) (ts : List Term) → AllByRecursion (λ t. IsGiven o (term_value o vs t)) ts → AllByRecursion (IsGiven o) (map (term_value o vs) ts)
  each_given vs [] h = tt
  each_given vs (t ∷ ts) h = (h.0, each_given vs ts h.1)

  pub value_given : (vs : Values) → AllGiven o vs → (t : Term) → IsGiven o (term_value o vs t)
  value_given vs a = ind_terms (λ t. IsGiven o (term_value o vs t))
      (λ v. subst (IsGiven o) (sym (fold-Var _ (term_value_step o vs) v)) (a v))
      (λ k. subst (IsGiven o) (sym (fold-Int _ (term_value_step o vs) k)) (given.int k, refl))
      (λ c. subst (IsGiven o) (sym (fold-Atom _ (term_value_step o vs) c)) (given.atom c, refl))
      (λ f ts h. subst (IsGiven o) (sym (fold-Node _ (term_value_step o vs) f ts)) (built f (map (term_value o vs) ts) (each_given vs ts h)))
    where
      built : (f : ℕ) (ws : List TypeValue) → AllByRecursion (IsGiven o) ws → IsGiven o (build o f ws)
      built f ws h = (given.build f ws (values_of ws h), built_set (list_all is_set ws) _ (all_set_of ws h))

  pub values_given : (vs : Values) → AllGiven o vs → (ts : List Term) → AllByRecursion (IsGiven o) (map (term_value o vs) ts)
  values_given vs a [] = tt
  values_given vs a (t ∷ ts) = (value_given vs a t, values_given vs a ts)

  abbrev pub Pushes : Term → Type 0
  Pushes t = (w : TypeValue) (vs : Values) → IsValue o w → AllGiven o vs → KnownGiven o (push o t w vs)

  at_push : (t : Term) (go : TypeValue → Values → Known) → push o t ≡ go → ((w : TypeValue) (vs : Values) → IsValue o w → AllGiven o vs → KnownGiven o (go w vs)) → Pushes t
  at_push t go e h w vs i a = subst (λ p. KnownGiven o (p w vs)) (sym e) (h w vs i a)

  parts_given : (w : TypeValue) (f n i : ℕ) (ts : List Term) → AllByRecursion Pushes ts → (vs : Values) → AllGiven o vs → KnownGiven o (push_parts o w f n i (map (push o) ts) vs)
  parts_given w f n i [] h vs a = a
  parts_given w f n i (t ∷ ts) h vs a = then_given _ _ (h.0 (project o w f n i) vs (given.project w f n i) a) (parts_given w f n (i + 1) ts h.1)

  pub push_given : (t : Term) → Pushes t
  push_given = ind_terms Pushes
      (λ v. at_push (Var v) _ (fold-Var _ (push_step o) v) (λ w vs i a. set_given vs v _ a (given.meet (vs v) w (a v).0 i)))
      (λ k. at_push (Int k) _ (fold-Int _ (push_step o) k) (λ w vs i a. where_given _ vs a))
      (λ c. at_push (Atom c) _ (fold-Atom _ (push_step o) c) (λ w vs i a. where_given _ vs a))
      (λ f ts h. at_push (Node f ts) _ (fold-Node _ (push_step o) f ts) (λ w vs i a. parts_given w f _ 0 ts h vs a))

  pub push_each_given : (ts : List Term) (ws : List TypeValue) → AllByRecursion (IsValue o) ws → (vs : Values) → AllGiven o vs → KnownGiven o (push_each o ts ws vs)
  push_each_given [] ws h vs a = a
  push_each_given (t ∷ ts) [] h vs a = a
  push_each_given (t ∷ ts) (w ∷ ws) h vs a = then_given _ _ (push_given t w vs h.0 a) (push_each_given ts ws h.1)

  both_given : (t u : Term) (vs : Values) → AllGiven o vs → KnownGiven o (push_both o t u vs)
  both_given t u vs a =
      let i = given.meet _ _ (value_given vs a t).0 (value_given vs a u).0 in
      then_given _ _ (push_given t _ vs i a) (λ ws b. push_given u _ ws i b)

  abbrev pub Unifies : Term → Type 0
  Unifies t = (u : Term) (vs : Values) → AllGiven o vs → KnownGiven o (unify_values o t u vs)

  at_unify : (t : Term) (go : Unifier o) → unifier o t ≡ go → ((u : Term) (vs : Values) → AllGiven o vs → KnownGiven o (go.with_term u vs)) → Unifies t
  at_unify t go e h u vs a = subst (λ p. KnownGiven o (p.with_term u vs)) (sym e) (h u vs a)

  int_given : (k : ℤ) (u : Term) (x : layer.Term-F Term) (vs : Values) → AllGiven o vs → KnownGiven o (int_with o k u x vs)
  int_given k u (layer.Var v) vs a = both_given (Int k) u vs a
  int_given k u (layer.Int j) vs a = where_given (int_eq k j) vs a
  int_given k u (layer.Atom c) vs a = tt
  int_given k u (layer.Node f us) vs a = tt

  atom_given : (c : ℕ) (u : Term) (x : layer.Term-F Term) (vs : Values) → AllGiven o vs → KnownGiven o (atom_with o c u x vs)
  atom_given c u (layer.Var v) vs a = both_given (Atom c) u vs a
  atom_given c u (layer.Atom d) vs a = where_given (c == d) vs a
  atom_given c u (layer.Int j) vs a = tt
  atom_given c u (layer.Node f us) vs a = tt

  each_unifies : (ts us : List Term) → AllByRecursion Unifies ts → (vs : Values) → AllGiven o vs → KnownGiven o (unify_parts o (map (unifier o) ts) us vs)
  each_unifies [] us h vs a = a
  each_unifies (t ∷ ts) [] h vs a = a
  each_unifies (t ∷ ts) (u ∷ us) h vs a = then_given _ _ (h.0 u vs a) (each_unifies ts us h.1)

  node_given : (f : ℕ) (ts : List Term) → AllByRecursion Unifies ts → (u : Term) (x : layer.Term-F Term) (vs : Values) → AllGiven o vs → KnownGiven o (node_with o f (map (unifier o) ts) u x vs)
  node_given f ts h u (layer.Var v) vs a = both_given (Node f (map (λ t. t.whole) (map (unifier o) ts))) u vs a
  node_given f ts h u (layer.Int j) vs a = tt
  node_given f ts h u (layer.Atom c) vs a = tt
  node_given f ts h u (layer.Node k us) vs a = then_given _ _ (where_given _ vs a) (each_unifies ts us h)

  unify_given : (t : Term) → Unifies t
  unify_given = ind_terms Unifies
      (λ v. at_unify (Var v) _ (fold-Var _ (unifier_step o) v) (λ u. both_given (Var v) u))
      (λ k. at_unify (Int k) _ (fold-Int _ (unifier_step o) k) (λ u. int_given k u (out-Term u)))
      (λ c. at_unify (Atom c) _ (fold-Atom _ (unifier_step o) c) (λ u. atom_given c u (out-Term u)))
      (λ f ts h. at_unify (Node f ts) _ (fold-Node _ (unifier_step o) f ts) (λ u. node_given f ts h u (out-Term u)))

  abbrev pub Grounds : Term → Type 0
  Grounds t = (vs : Values) → AllGiven o vs → KnownGiven o (ground o t vs)

  at_ground : (t : Term) (go : Values → Known) → ground o t ≡ go → ((vs : Values) → AllGiven o vs → KnownGiven o (go vs)) → Grounds t
  at_ground t go e h vs a = subst (λ p. KnownGiven o (p vs)) (sym e) (h vs a)

  turns_given : (ts : List Term) → AllByRecursion Grounds ts → (vs : Values) → AllGiven o vs → KnownGiven o (in_turn (map (ground o) ts) vs)
  turns_given [] h vs a = a
  turns_given (t ∷ ts) h vs a = then_given _ _ (h.0 vs a) (turns_given ts h.1)

  name_given : (n : ℕ) → n < 10 → IsValue o (of_name o n)
  name_given n lt = given.name n (names n lt)

  ground_given : (t : Term) → Grounds t
  ground_given = ind_terms Grounds
      (λ v. at_ground (Var v) _ (fold-Var _ (ground_step o) v) (λ vs a. set_given vs v _ a (given.meet (vs v) _ (a v).0 (name_given GND_TYPE (omega arith)))))
      (λ k. at_ground (Int k) _ (fold-Int _ (ground_step o) k) (λ vs a. a))
      (λ c. at_ground (Atom c) _ (fold-Atom _ (ground_step o) c) (λ vs a. a))
      (λ f ts h. at_ground (Node f ts) _ (fold-Node _ (ground_step o) f ts) (turns_given ts h))

  compare_given : (t u : Term) (vs : Values) → AllGiven o vs → KnownGiven o (compare_values o t u vs)
  compare_given t u vs a = then_given _ _ (ground_given t vs a) (ground_given u)

  builtin_given : (b : BuiltinName) (t u : Term) (vs : Values) → ((n : ℕ) → b ≡ builtin.Belongs n → n < o.size) → AllGiven o vs → KnownGiven o (builtin_effect o b t u vs)
  builtin_given builtin.Unify t u vs e a = unify_given t u vs a
  builtin_given builtin.NotUnify t u vs e a = a
  builtin_given builtin.Same t u vs e a = a
  builtin_given builtin.NotSame t u vs e a = a
  builtin_given builtin.Is t u vs e a = then_given _ _ (ground_given u vs a) (λ ws b. push_given t _ ws (name_given INT_TYPE (omega arith)) b)
  builtin_given builtin.Less t u vs e a = compare_given t u vs a
  builtin_given builtin.Greater t u vs e a = compare_given t u vs a
  builtin_given builtin.LessEq t u vs e a = compare_given t u vs a
  builtin_given builtin.GreaterEq t u vs e a = compare_given t u vs a
  builtin_given builtin.NumEq t u vs e a = compare_given t u vs a
  builtin_given builtin.NumNotEq t u vs e a = compare_given t u vs a
  builtin_given builtin.Integer t u vs e a = push_given t _ vs (name_given INT_TYPE (omega arith)) a
  builtin_given builtin.Atom t u vs e a = push_given t _ vs (name_given ATM_TYPE (omega arith)) a
  builtin_given builtin.Write t u vs e a = a
  builtin_given builtin.Writeq t u vs e a = a
  builtin_given builtin.Nl t u vs e a = a
  builtin_given (builtin.Belongs n) t u vs e a = push_given t _ vs (given.name n (e n refl)) a
  builtin_given builtin.IsVar t u vs e a = a
  builtin_given builtin.IsNonvar t u vs e a = a
  builtin_given builtin.IsGround t u vs e a = push_given t _ vs (name_given GND_TYPE (omega arith)) a

  module _ (program : Program) (sized : o.size ≡ length program.grammar.rules) (ten : 10 ≤ length program.grammar.rules) (vars : ℕ) (exits : Exits) (exits_given : (p : ℕ) → ExitsGiven o (exits p)) where
    abbrev pub Gives : Goal → Type 0
    Gives g = is_goal_of program vars g ≡ true → (vs : Values) → AllGiven o vs → OutcomeGiven program o (run_goal o exits g vs)

    join_given : (k l : Known) → KnownGiven o k → KnownGiven o l → KnownGiven o (join_known k l)
    join_given None l h m = m
    join_given (Some vs) None h m = h
    join_given (Some vs) (Some ws) h m = λ v. joined (vs v) (ws v) (h v) (m v)
      where
        joined : (a b : TypeValue) → IsGiven o a → IsGiven o b → IsGiven o (join a b)
        joined None b h m = absurd (true≢false (sym h.1))
        joined (Some p) None h m = h
        joined (Some p) (Some q) h m = (given.join (Some p) (Some q) h.0 m.0, refl)

    from_given : (k : Known) (go : Values → Outcome) → KnownGiven o k → ((vs : Values) → AllGiven o vs → OutcomeGiven program o (go vs)) → OutcomeGiven program o (from_known k go)
    from_given None go h rest = record { known = tt; calls = tt }
    from_given (Some vs) go h rest = rest vs h

    then_gives : (a : Outcome) (go : Values → Outcome) → OutcomeGiven program o a → ((vs : Values) → AllGiven o vs → OutcomeGiven program o (go vs)) → OutcomeGiven program o (then_outcome a go)
    then_gives a go h rest = let m = from_given a.known go h.known rest in record { known = m.known; calls = all_both (CallGiven program o) a.calls _ h.calls m.calls }

    either_gives : (a b : Outcome) → OutcomeGiven program o a → OutcomeGiven program o b → OutcomeGiven program o (either_outcome a b)
    either_gives a b h m = record { known = join_given a.known b.known h.known m.known; calls = all_both (CallGiven program o) a.calls _ h.calls m.calls }

    behind_given : (es : Option (List TypeValue)) (ts : List Term) (vs : Values) → ExitsGiven o es → AllGiven o vs → KnownGiven o (behind_call o exits es ts vs)
    behind_given None ts vs h a = tt
    behind_given (Some ws) ts vs h a = push_each_given ts ws h vs a

    at_goal : (g : Goal) (go : Values → Outcome) → run_goal o exits g ≡ go → (is_goal_of program vars g ≡ true → (vs : Values) → AllGiven o vs → OutcomeGiven program o (go vs)) → Gives g
    at_goal g go e h f vs a = subst (λ x. OutcomeGiven program o (x vs)) (sym e) (h f vs a)

    at_call : (p : ℕ) (ts : List Term) → Gives (goal.Call p ts)
    at_call p ts = at_goal (goal.Call p ts) _ (fold-Call _ (outcome_step o exits) p ts) (λ f vs a.
        let c = both (is_call_of program p ts) _ (sym (fold-Call Bool (in_range program vars) p ts) ∙ f) in
        let b = both (is_pred_of program p) (length ts == (pred_of program p).arity) c.0 in
        let lt : p < length program.preds = (let e = b.0 in grind (arith, nat_tests, e)) in
        let as_many : length ts ≡ (pred_of program p).arity = (let e = b.1 in grind (arith, nat_tests, e)) in
        record { known = behind_given (exits p) ts vs (exits_given p) a; calls = ((lt, map_count (term_value o vs) ts ∙ as_many, values_given vs a ts), tt) })

    at_conj : (a b : Goal) → Gives a → Gives b → Gives (goal.Conj a b)
    at_conj a b h k = at_goal (goal.Conj a b) _ (fold-Conj _ (outcome_step o exits) a b) (λ f vs i.
        let t = both (is_goal_of program vars a) (is_goal_of program vars b) (sym (fold-Conj Bool (in_range program vars) a b) ∙ f) in
        then_gives _ _ (h t.0 vs i) (k t.1))

    at_disj : (a b : Goal) → Gives a → Gives b → Gives (goal.Disj a b)
    at_disj a b h k = at_goal (goal.Disj a b) _ (fold-Disj _ (outcome_step o exits) a b) (λ f vs i.
        let t = both (is_goal_of program vars a) (is_goal_of program vars b) (sym (fold-Disj Bool (in_range program vars) a b) ∙ f) in
        either_gives _ _ (h t.0 vs i) (k t.1 vs i))

    at_if : (c a b : Goal) → Gives c → Gives a → Gives b → Gives (goal.IfElse c a b)
    at_if c a b j h k = at_goal (goal.IfElse c a b) _ (fold-IfElse _ (outcome_step o exits) c a b) (λ f vs i.
        let t = both (is_goal_of program vars c) (is_goal_of program vars a && is_goal_of program vars b) (sym (fold-IfElse Bool (in_range program vars) c a b) ∙ f) in
        let u = both (is_goal_of program vars a) (is_goal_of program vars b) t.1 in
        either_gives _ _ (then_gives _ _ (j t.0 vs i) (h u.0)) (k u.1 vs i))

    at_not : (a : Goal) → Gives a → Gives (goal.Not a)
    at_not a h = at_goal (goal.Not a) _ (fold-Not _ (outcome_step o exits) a) (λ f vs i. record { known = i; calls = (h (sym (fold-Not Bool (in_range program vars) a) ∙ f) vs i).calls })

    pub goal_gives : (g : Goal) → Gives g
    goal_gives = ind_goals Gives
        (at_goal goal.True _ (fold-True _ (outcome_step o exits)) (λ f vs a. record { known = a; calls = tt }))
        (at_goal goal.Fail _ (fold-Fail _ (outcome_step o exits)) (λ f vs a. record { known = tt; calls = tt }))
        (at_goal goal.Cut _ (fold-Cut _ (outcome_step o exits)) (λ f vs a. record { known = a; calls = tt }))
        at_call
        (λ b ts. at_goal (goal.Builtin b ts) _ (fold-Builtin _ (outcome_step o exits) b ts) (λ f vs a.
        record {
          known = builtin_given b (slice_index_or ts 0 (term.Atom 0)) (slice_index_or ts 1 (term.Atom 0)) vs
              (λ n is. subst (λ size. n < size) (sym sized) (type_named (length program.grammar.rules) b ts ten (both (is_builtin_of (length program.grammar.rules) b ts) _ (sym (fold-Builtin Bool (in_range program vars) b ts) ∙ f)).0 n is)) a;
          calls = tt;
        }))
        at_conj at_disj at_if at_not
        (at_goal goal.Exit _ (fold-Exit _ (outcome_step o exits)) (λ f vs a. record { known = a; calls = tt }))
