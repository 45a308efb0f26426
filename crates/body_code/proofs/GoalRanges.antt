-- The goal that a body makes is in range of each program that has what it may speak of.
use Rattle.std.proofs.Common.{◌≡◌, ◌≤◌, ◌<◌, ℕ, Bool, true, false, List, [], ◌∷◌, map, length, refl, sym, ap, ◌∙◌, arith, subst}
use Rattle.std.proofs.lemmas.Bool.Decides.{nat_tests}
use Rattle.std.proofs.lemmas.Bool.{and_parts, and_from}
use Rattle.std.specs.Prelude.{cond, filter, nat_lt, nat_le, ◌==◌, ◌&&◌, Option, Some, None, option_map}
use Rattle.std.specs.List.{list_all, AllByRecursion}
use Rattle.term_core.specs.declared.fixed.TheConstants.{ARROW}
use Rattle.term_core.specs.declared.terms.Term.{Term, Var, Int, Atom, Node, out-Term}
use Rattle.term_core.specs.declared.terms.Term.TheOpen as layer
use Rattle.term_core.specs.Ranges.{has_names, IsInRange}
use Rattle.term_core.specs.Shapes.{is_atom}
use Rattle.term_core.specs.Terms.{above}
use Rattle.term_core.proofs.TermFolds.{ind_terms}
use Rattle.prog_data.specs.declared.control.Control.{Control}
use Rattle.prog_data.specs.declared.control.Control.TheVariants as control
use Rattle.prog_data.specs.declared.control.Meaning.{Meaning}
use Rattle.prog_data.specs.declared.control.Meaning.TheVariants as meaning
use Rattle.prog_data.specs.declared.goals.Builtin.{Builtin as BuiltinName}
use Rattle.prog_data.specs.declared.goals.Builtin.TheVariants as builtin
use Rattle.prog_data.specs.declared.goals.Goal.{Goal}
use Rattle.prog_data.specs.declared.goals.Goal as goal
use Rattle.prog_data.specs.declared.grammars.Grammar.{Grammar}
use Rattle.prog_data.specs.declared.programs.Program.{Program}
use Rattle.prog_data.specs.Control.{meaning_of}
use Rattle.prog_data.specs.Goals.{pred_of}
use Rattle.prog_data.specs.Ranges.{is_term_of, is_pred_of, is_builtin_of, is_call_of, goal_step, is_goal_of}
use Rattle.prog_data.proofs.GoalFolds.{fold-True, fold-Fail, fold-Cut, fold-Call, fold-Builtin, fold-Conj, fold-Disj, fold-IfElse, fold-Not}
use Rattle.regtype_grammar.specs.declared.meanings.Meaning.{Meaning as TypeMeaning}
use Rattle.regtype_grammar.specs.declared.meanings.Meaning.TheVariants as type
use Rattle.regtype_grammar.specs.Lists.{Listed, list_of}
use Rattle.regtype_grammar.specs.TypeNames.{meaning as type_meant}
use Rattle.body_code.specs.declared.scopes.Named.{Named}
use Rattle.body_code.specs.declared.scopes.Visible.{Visible}
use Rattle.body_code.specs.Making.{Making, made, followed, ◌>>=◌}
use Rattle.body_code.specs.Scopes.{is_named, meaning_of_preds, callee_of}
use Rattle.body_code.specs.Bodies.{Body, type_at, element_type, call, name_in, list_name, list_test, lone_goal, in_turn, joined, chosen, either, pair_goal, control_goal, named_goal, branches_of, named_body, no_goal, body_of}
use Rattle.body_code.specs.Ranges.{ArePredsOf}
use Rattle.body_code.proofs.Themselves.{at_variable, at_number, at_atom, at_compound}
use Rattle.body_code.proofs.TermRanges.{is_less, is_within, compound_parts}
use Rattle.body_code.proofs.ListNames.{list_named}
use Rattle.body_code.proofs.TableRows.{builtin_in}

-- what passes a filter has the property that it had, and passes the test
each_filter : {A : Type 0} (P : A → Type 0) (test : A → Bool) (xs : List A) → AllByRecursion P xs → AllByRecursion (λ x. P x × (test x ≡ true)) (filter test xs)
each_filter P test [] h = tt
each_filter P test (x ∷ xs) h = by (each_filter P test xs h.1) (test x) refl
  where
    by : AllByRecursion (λ y. P y × (test y ≡ true)) (filter test xs) → (b : Bool) → test x ≡ b → AllByRecursion (λ y. P y × (test y ≡ true)) (cond b (x ∷ filter test xs) (filter test xs))
    by others true e = ((h.0, e), others)
    by others false e = others

equal : (n m : ℕ) → (n == m) ≡ true → n ≡ m
equal n m e = grind (arith, nat_tests)

is_equal : (n m : ℕ) → n ≡ m → (n == m) ≡ true
is_equal n m e = grind (arith, nat_tests)

module _ (program : Program) (visible : Visible) (vars : ℕ) (named : ArePredsOf program visible.preds) where
  abbrev pub IsTerm : Term → Type 0
  IsTerm t = IsInRange (length program.names) vars t

  abbrev pub AreTerms : List Term → Type 0
  AreTerms ts = AllByRecursion IsTerm ts

  abbrev pub IsGoal : Goal → Type 0
  IsGoal g = is_goal_of program vars g ≡ true

  pub terms_pass : (ts : List Term) → AreTerms ts → list_all (is_term_of program vars) ts ≡ true
  terms_pass [] h = refl
  terms_pass (t ∷ ts) h =
      and_from (is_term_of program vars t) (list_all (is_term_of program vars) ts)
      (and_from (has_names (length program.names) t) (nat_le (above t) vars) h.0.named (is_within (above t) vars h.0.below))
      (terms_pass ts h.1)

  -- goals

  true_in : IsGoal goal.True
  true_in = fold-True Bool (goal_step program vars)

  fail_in : IsGoal goal.Fail
  fail_in = fold-Fail Bool (goal_step program vars)

  cut_in : IsGoal goal.Cut
  cut_in = fold-Cut Bool (goal_step program vars)

  not_in : (a : Goal) → IsGoal a → IsGoal (goal.Not a)
  not_in a p = fold-Not Bool (goal_step program vars) a ∙ p

  conj_in : (a b : Goal) → IsGoal a → IsGoal b → IsGoal (goal.Conj a b)
  conj_in a b p q = fold-Conj Bool (goal_step program vars) a b ∙ and_from (is_goal_of program vars a) (is_goal_of program vars b) p q

  disj_in : (a b : Goal) → IsGoal a → IsGoal b → IsGoal (goal.Disj a b)
  disj_in a b p q = fold-Disj Bool (goal_step program vars) a b ∙ and_from (is_goal_of program vars a) (is_goal_of program vars b) p q

  if_in : (c a b : Goal) → IsGoal c → IsGoal a → IsGoal b → IsGoal (goal.IfElse c a b)
  if_in c a b o p q =
      fold-IfElse Bool (goal_step program vars) c a b
      ∙ and_from (is_goal_of program vars c) (is_goal_of program vars a && is_goal_of program vars b) o (and_from (is_goal_of program vars a) (is_goal_of program vars b) p q)

  builtin_goal : (b : BuiltinName) (ts : List Term) → is_builtin_of (length program.grammar.rules) b ts ≡ true → AreTerms ts → IsGoal (goal.Builtin b ts)
  builtin_goal b ts e h =
      fold-Builtin Bool (goal_step program vars) b ts
      ∙ and_from (is_builtin_of (length program.grammar.rules) b ts) (list_all (is_term_of program vars) ts) e (terms_pass ts h)

  abbrev IsPredOf : Named → Type 0
  IsPredOf n = (n.pred < length program.preds) × ((pred_of program n.pred).arity ≡ n.arity)

  -- a call of a predicate that is seen
  call_in : (name : ℕ) (ts : List Term) → AreTerms ts → IsGoal (call (callee_of visible name (length ts)) ts)
  call_in name ts h = by (filter (is_named name (length ts)) visible.preds) (each_filter IsPredOf (is_named name (length ts)) visible.preds named)
    where
      by : (ns : List Named) → AllByRecursion (λ n. IsPredOf n × (is_named name (length ts) n ≡ true)) ns → IsGoal (call (meaning_of_preds ns) ts)
      by [] all = fail_in
      by (n ∷ []) all =
          let arity : n.arity ≡ length ts = equal n.arity (length ts) (and_parts (n.name == name) _ all.0.1).1 in
          let same : length ts ≡ (pred_of program n.pred).arity = sym (all.0.0.1 ∙ arity) in
          fold-Call Bool (goal_step program vars) n.pred ts
          ∙ and_from (is_call_of program n.pred ts) (list_all (is_term_of program vars) ts)
          (and_from (is_pred_of program n.pred) (length ts == (pred_of program n.pred).arity) (is_less n.pred (length program.preds) all.0.0.0) (is_equal (length ts) (pred_of program n.pred).arity same))
          (terms_pass ts h)
      by (n ∷ m ∷ rest) all = fail_in

  -- what is made

  -- where it is there, the grammar is no smaller, and it has the property where the program has the names of the grammar behind it
  abbrev pub MadeIn : {A : Type 0} → (A → Type 0) → ℕ → Option (A × Grammar) → Type 0
  MadeIn P size None = Unit {0}
  MadeIn P size (Some x) = (size ≤ length x.1.rules) × (length x.1.rules ≤ length program.grammar.rules → P x.0)

  abbrev pub Ranged : {A : Type 0} → (A → Type 0) → Making A → Type 0
  Ranged P m = (g : Grammar) → MadeIn P (length g.rules) (m g)

  raised : {A : Type 0} (P : A → Type 0) (n m : ℕ) (o : Option (A × Grammar)) → n ≤ m → MadeIn P m o → MadeIn P n o
  raised P n m None le h = tt
  raised P n m (Some x) le h = let more : m ≤ length x.1.rules = h.0 in (omega (arith, le, more), h.1)

  then_in : {A B : Type 0} (P : A → Type 0) (Q : B → Type 0) (g : Grammar) (o : Option (A × Grammar)) (f : A → Making B) → MadeIn P (length g.rules) o
      → ((x : A) (k : Grammar) → length g.rules ≤ length k.rules → (length k.rules ≤ length program.grammar.rules → P x) → MadeIn Q (length k.rules) (f x k)) → MadeIn Q (length g.rules) (followed f o)
  then_in P Q g None f h more = tt
  then_in P Q g (Some x) f h more = raised Q (length g.rules) (length x.1.rules) (f x.0 x.1) h.0 (more x.0 x.1 h.0 h.1)

  made_in : (a : Goal) → IsGoal a → Ranged IsGoal (made a)
  made_in a p g = (omega arith, λ within. p)

  abbrev AreBoth : Goal × Goal → Type 0
  AreBoth both = IsGoal both.0 × IsGoal both.1

  turn_in : (a b : Making Goal) → Ranged IsGoal a → Ranged IsGoal b → Ranged AreBoth (in_turn a b)
  turn_in a b p q g =
      then_in IsGoal AreBoth g (a g) (λ left. b >>= (λ right. made (left, right))) (p g)
      (λ left k le one. then_in IsGoal AreBoth k (b k) (λ right. made (left, right)) (q k)
      (λ right m less two. (omega arith, λ within. (one (omega (arith, less, within)), two within))))

  joined_in : (join : Goal → Goal → Goal) (a b : Making Goal) → ((x y : Goal) → IsGoal x → IsGoal y → IsGoal (join x y)) → Ranged IsGoal a → Ranged IsGoal b → Ranged IsGoal (joined join a b)
  joined_in join a b keeps p q g =
      then_in AreBoth IsGoal g (in_turn a b g) (λ both. made (join both.0 both.1)) (turn_in a b p q g)
      (λ both k le one. (omega arith, λ within. keeps both.0 both.1 (one within).0 (one within).1))

  chosen_in : (c a b : Making Goal) → Ranged IsGoal c → Ranged IsGoal a → Ranged IsGoal b → Ranged IsGoal (chosen c a b)
  chosen_in c a b o p q g =
      then_in AreBoth IsGoal g (in_turn c a g) (λ both. b >>= (λ fails. made (goal.IfElse both.0 both.1 fails))) (turn_in c a o p g)
      (λ both k le one. then_in IsGoal IsGoal k (b k) (λ fails. made (goal.IfElse both.0 both.1 fails)) (q k)
      (λ fails m less two. (omega arith, λ within. if_in both.0 both.1 fails (one (omega (arith, less, within))).0 (one (omega (arith, less, within))).1 (two within))))

  -- the name of the lists of a type
  list_name_in : (element : ℕ) → Ranged (λ name. name < length program.grammar.rules) (list_name element)
  list_name_in element g = by (list_of g element) refl
    where
      by : (o : Option Listed) → list_of g element ≡ o → MadeIn (λ name. name < length program.grammar.rules) (length g.rules) (option_map name_in o)
      by None e = tt
      by (Some l) e =
          let is = list_named g element l e in
          let below : l.name < length l.grammar.rules = is.1 in
          (is.0, λ within. omega (arith, below, within))

  -- a test by the lists of a type
  list_test_in : (ts : List Term) → AreTerms ts → Ranged IsGoal (list_test (element_type visible ts) ts)
  list_test_in [] h = made_in goal.Fail fail_in
  list_test_in (t ∷ []) h = made_in goal.Fail fail_in
  list_test_in (t ∷ u ∷ []) h = by (out-Term u) refl
    where
      tests : (m : TypeMeaning) → is_atom (out-Term u) ≡ true → Ranged IsGoal (list_test m (t ∷ u ∷ []))
      tests (type.One element) e = λ g.
          then_in (λ name. name < length program.grammar.rules) IsGoal g (list_name element g) (λ name. made (goal.Builtin (builtin.Belongs name) (t ∷ u ∷ []))) (list_name_in element g)
          (λ name k le below. (
            omega arith,
            λ within.
                builtin_goal (builtin.Belongs name) (t ∷ u ∷ []) (and_from (nat_lt name (length program.grammar.rules)) (is_atom (out-Term u)) (is_less name (length program.grammar.rules) (below within)) e) h,
          ))
      tests type.Unknown e = made_in goal.Fail fail_in
      tests type.Several e = made_in goal.Fail fail_in

      by : (x : layer.Term-F Term) → out-Term u ≡ x → Ranged IsGoal (list_test (type_at visible x) (t ∷ u ∷ []))
      by (layer.Var v) e = made_in goal.Fail fail_in
      by (layer.Int n) e = made_in goal.Fail fail_in
      by (layer.Atom a) e = tests (type_meant visible.types a) (ap is_atom e)
      by (layer.Node f us) e = made_in goal.Fail fail_in
  list_test_in (t ∷ u ∷ v ∷ ts) h = made_in goal.Fail fail_in

  -- bodies

  abbrev pub BranchesIn : Option (Making Goal × Making Goal) → Type 0
  BranchesIn None = Unit {0}
  BranchesIn (Some both) = Ranged IsGoal both.0 × Ranged IsGoal both.1

  pub record BodyIn (b : Body) : Type 0 where
    pub makes : Ranged IsGoal b.makes
    pub branches : BranchesIn b.branches

  lone_in : (c : Control) → IsGoal (lone_goal c)
  lone_in control.Conjunction = fail_in
  lone_in control.Disjunction = fail_in
  lone_in control.IfThen = fail_in
  lone_in control.Negation = fail_in
  lone_in control.Cut = cut_in
  lone_in control.True = true_in
  lone_in control.Fail = fail_in

  either_in : (o : Option (Making Goal × Making Goal)) (a b : Making Goal) → BranchesIn o → Ranged IsGoal a → Ranged IsGoal b → Ranged IsGoal (either o a b)
  either_in None a b o p q = joined_in goal.Disj a b disj_in p q
  either_in (Some both) a b o p q = chosen_in both.0 both.1 b o.0 o.1 q

  pair_in : (c : Control) (a b : Body) → BodyIn a → BodyIn b → Ranged IsGoal (pair_goal c a b)
  pair_in control.Conjunction a b p q = joined_in goal.Conj a.makes b.makes conj_in p.makes q.makes
  pair_in control.Disjunction a b p q = either_in a.branches a.makes b.makes p.branches p.makes q.makes
  pair_in control.IfThen a b p q = chosen_in a.makes b.makes (made goal.Fail) p.makes q.makes (made_in goal.Fail fail_in)
  pair_in control.Negation a b p q = chosen_in a.makes b.makes (made goal.Fail) p.makes q.makes (made_in goal.Fail fail_in)
  pair_in control.Cut a b p q = chosen_in a.makes b.makes (made goal.Fail) p.makes q.makes (made_in goal.Fail fail_in)
  pair_in control.True a b p q = chosen_in a.makes b.makes (made goal.Fail) p.makes q.makes (made_in goal.Fail fail_in)
  pair_in control.Fail a b p q = chosen_in a.makes b.makes (made goal.Fail) p.makes q.makes (made_in goal.Fail fail_in)

  control_in : (c : Control) (parts : List Body) → AllByRecursion BodyIn parts → Ranged IsGoal (control_goal c parts)
  control_in c [] h = made_in (lone_goal c) (lone_in c)
  control_in c (a ∷ []) h = λ g. then_in IsGoal IsGoal g (a.makes g) (λ inner. made (goal.Not inner)) (h.0.makes g) (λ inner k le one. (omega arith, λ within. not_in inner (one within)))
  control_in c (a ∷ b ∷ []) h = pair_in c a b h.0 h.1.0
  control_in c (a ∷ b ∷ d ∷ rest) h = made_in goal.Fail fail_in

  named_goal_in : (m : Option Meaning) (name : ℕ) (ts : List Term) (parts : List Body) → meaning_of name (length ts) ≡ m → AreTerms ts → AllByRecursion BodyIn parts → Ranged IsGoal (named_goal visible m name ts parts)
  named_goal_in None name ts parts e h k = made_in (call (callee_of visible name (length ts)) ts) (call_in name ts h)
  named_goal_in (Some (meaning.Control c)) name ts parts e h k = control_in c parts k
  named_goal_in (Some (meaning.Builtin b)) name ts parts e h k = made_in (goal.Builtin b ts) (builtin_goal b ts (builtin_in (length program.grammar.rules) name b ts e) h)
  named_goal_in (Some meaning.ListTest) name ts parts e h k = list_test_in ts h

  branches_in : (name : ℕ) (parts : List Body) → AllByRecursion BodyIn parts → BranchesIn (branches_of name parts)
  branches_in name [] k = tt
  branches_in name (a ∷ []) k = tt
  branches_in name (a ∷ b ∷ []) k = by (name == ARROW)
    where
      by : (t : Bool) → BranchesIn (cond t (Some (a.makes, b.makes)) None)
      by true = (k.0.makes, k.1.0.makes)
      by false = tt
  branches_in name (a ∷ b ∷ d ∷ rest) k = tt

  named_body_in : (itself : Term) (name : ℕ) (ts : List Term) (parts : List Body) → AreTerms ts → AllByRecursion BodyIn parts → BodyIn (named_body visible itself name ts parts)
  named_body_in itself name ts parts h k = record {
    makes = named_goal_in (meaning_of name (length ts)) name ts parts refl h k;
    branches = branches_in name parts k;
  }

  no_goal_in : (itself : Term) → BodyIn (no_goal itself)
  no_goal_in itself = record { makes = made_in goal.Fail fail_in; branches = tt }

  bodies_in : (ts : List Term) → AllByRecursion (λ t. IsTerm t → BodyIn (body_of visible t)) ts → AreTerms ts → AllByRecursion BodyIn (map (body_of visible) ts)
  bodies_in [] k h = tt
  bodies_in (t ∷ ts) k h = (k.0 h.0, bodies_in ts k.1 h.1)

  -- a term in range is a body in range
  pub body_in : (t : Term) → IsTerm t → BodyIn (body_of visible t)
  body_in = ind_terms (λ t. IsTerm t → BodyIn (body_of visible t))
      (λ v is. subst BodyIn (sym (at_variable visible v)) (no_goal_in (Var v)))
      (λ n is. subst BodyIn (sym (at_number visible n)) (no_goal_in (Int n)))
      (λ a is. subst BodyIn (sym (at_atom visible a)) (named_body_in (Atom a) a [] [] tt tt))
      (λ f ts k is. let h = compound_parts (length program.names) vars f ts is in
      subst BodyIn (sym (at_compound visible f ts)) (named_body_in (Node f ts) f ts (map (body_of visible) ts) h (bodies_in ts k h)))
