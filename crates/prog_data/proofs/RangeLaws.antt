-- What is in range of a program stays so.
use Rattle.std.proofs.Common.{◌≡◌, ◌≤◌, ℕ, Bool, true, false, ◌&&◌, List, [], ◌∷◌, map, length, refl, ap, sym, ◌∙◌, arith, true≢false, length-append}
use Rattle.std.proofs.lemmas.List.{length-map}
use Rattle.std.proofs.lemmas.Bool.Decides.{nat_tests}
use Rattle.std.proofs.lemmas.Bool.{and_parts}
use Rattle.std.proofs.lemmas.Option.{slice_get-get_or}
use Rattle.std.specs.Prelude.{nat_lt, nat_le, ◌==◌, cond}
use Rattle.std.specs.List.{list_all}
use Rattle.term_core.specs.Lists.{IsPrefix}
use Rattle.term_core.specs.Ranges.{has_names, IsInRange, RangesStay}
use Rattle.term_core.specs.Terms.{instance, instance_step, above}
use Rattle.term_core.specs.declared.terms.Term.{Term, out-Term}
use Rattle.term_core.specs.declared.terms.Term.TheVariants.{outs-Var, outs-Int, outs-Atom, outs-Node}
use Rattle.term_core.proofs.TermFolds.{fold-Atom as term-Atom, ind_terms}
use Rattle.term_core.specs.Shapes.{is_atom}
use Rattle.prog_data.specs.declared.conditions.Cond.{Cond}
use Rattle.prog_data.specs.declared.goals.Builtin.{Builtin as BuiltinName}
use Rattle.prog_data.specs.declared.goals.Builtin.TheVariants as builtin
use Rattle.prog_data.specs.declared.goals.Goal.{Goal, out-Goal}
use Rattle.prog_data.specs.declared.goals.Goal.TheOpen as layer
use Rattle.prog_data.specs.declared.goals.Goal.TheVariants.{outs-True, outs-Fail, outs-Cut, outs-Call, outs-Builtin, outs-Conj, outs-Disj, outs-IfElse, outs-Not, outs-Exit}
use Rattle.prog_data.specs.declared.grammars.Rule.{Rule}
use Rattle.prog_data.specs.declared.grammars.Rule.TheVariants as rule
use Rattle.prog_data.specs.declared.programs.Claim.{Claim}
use Rattle.prog_data.specs.declared.programs.Clause.{Clause}
use Rattle.prog_data.specs.declared.programs.Pred.{Pred}
use Rattle.prog_data.specs.declared.programs.Program.{Program}
use Rattle.prog_data.specs.Goals.{goal_instance, goal_instance_step, is_exit, ends_in_exit_at, without_exit, without_exit_at, no_pred, pred_of}
use Rattle.prog_data.specs.Ranges.{is_name_of, is_term_of, is_type_test, is_builtin_of, is_call_of, goal_step, is_goal_of, is_body_of, is_clause_of, is_pred_of}
use Rattle.prog_data.specs.Programs.{with_names, IsPred, IsCond, is_named_rule, is_claim_of, IsProgram}
use Rattle.prog_data.specs.RangeLaws.{AreTermsOf, RangesAreKept}
use Rattle.prog_data.proofs.GoalFolds.{ind_goals, fold-True, fold-Fail, fold-Cut, fold-Call, fold-Builtin, fold-Conj, fold-Disj, fold-IfElse, fold-Not, fold-Exit}

both : (a b : Bool) → a ≡ true → b ≡ true → (a && b) ≡ true
both true b e h = h
both false b e h = e

-- what each element of a list passes, by what it passes already
all_map : {A B : Type 0} (make : A → B) (p : A → Bool) (q : B → Bool) → ((x : A) → p x ≡ true → q (make x) ≡ true) → (xs : List A) → list_all p xs ≡ true → list_all q (map make xs) ≡ true
all_map make p q keeps [] e = refl
all_map make p q keeps (x ∷ xs) e = let parts = and_parts (p x) _ e in both (q (make x)) _ (keeps x parts.0) (all_map make p q keeps xs parts.1)

all_up : {A : Type 0} (p q : A → Bool) → ((x : A) → p x ≡ true → q x ≡ true) → (xs : List A) → list_all p xs ≡ true → list_all q xs ≡ true
all_up p q keeps [] e = refl
all_up p q keeps (x ∷ xs) e = let parts = and_parts (p x) _ e in both (q x) _ (keeps x parts.0) (all_up p q keeps xs parts.1)

le_of : (a b : ℕ) → nat_le a b ≡ true → a ≤ b
le_of a b e = grind (arith, nat_tests)

of_le : (a b : ℕ) → a ≤ b → nat_le a b ≡ true
of_le a b le = grind (arith, nat_tests)

lt_up : (a m n : ℕ) → m ≤ n → nat_lt a m ≡ true → nat_lt a n ≡ true
lt_up a m n le e = grind (arith, nat_tests)

-- a term in range, as a record and as a test
in_range : (program : Program) (vars : ℕ) (t : Term) → is_term_of program vars t ≡ true → IsInRange (length program.names) vars t
in_range program vars t e = let parts = and_parts (has_names (length program.names) t) _ e in record { named = parts.0; below = le_of (above t) vars parts.1 }

is_in_range : (program : Program) (vars : ℕ) (t : Term) → IsInRange (length program.names) vars t → is_term_of program vars t ≡ true
is_in_range program vars t is = both (has_names (length program.names) t) _ is.named (of_le (above t) vars is.below)

-- instances

module _ (value : ℕ → Term) where
  -- an atom is its own instance
  atom_stays : (t : Term) → is_atom (out-Term t) ≡ true → is_atom (out-Term (instance value t)) ≡ true
  atom_stays =
      ind_terms (λ t. is_atom (out-Term t) ≡ true → is_atom (out-Term (instance value t)) ≡ true)
      (λ v e. absurd (true≢false (sym e ∙ ap is_atom (outs-Var v))))
      (λ n e. absurd (true≢false (sym e ∙ ap is_atom (outs-Int n))))
      (λ a e. ap (λ t. is_atom (out-Term t)) (term-Atom Term (instance_step value) a) ∙ ap is_atom (outs-Atom a))
      (λ f ts h e. absurd (true≢false (sym e ∙ ap is_atom (outs-Node f ts))))

  -- as many instances as terms
  counted : (n : ℕ) (ts : List Term) → (length ts == n) ≡ true → (length (map (instance value) ts) == n) ≡ true
  counted n ts e = ap (λ k. k == n) (length-map ts (instance value)) ∙ e

  type_test_stays : (size type : ℕ) (ts : List Term) → is_type_test size type ts ≡ true → is_type_test size type (map (instance value) ts) ≡ true
  type_test_stays size type [] e = e
  type_test_stays size type (t ∷ []) e = e
  type_test_stays size type (t ∷ u ∷ []) e = let parts = and_parts (nat_lt type size) _ e in both (nat_lt type size) _ parts.0 (atom_stays u parts.1)
  type_test_stays size type (t ∷ u ∷ v ∷ ts) e = e

  builtin_stays : (size : ℕ) (b : BuiltinName) (ts : List Term) → is_builtin_of size b ts ≡ true → is_builtin_of size b (map (instance value) ts) ≡ true
  builtin_stays size builtin.Unify ts e = counted 2 ts e
  builtin_stays size builtin.NotUnify ts e = counted 2 ts e
  builtin_stays size builtin.Same ts e = counted 2 ts e
  builtin_stays size builtin.NotSame ts e = counted 2 ts e
  builtin_stays size builtin.Is ts e = counted 2 ts e
  builtin_stays size builtin.Less ts e = counted 2 ts e
  builtin_stays size builtin.Greater ts e = counted 2 ts e
  builtin_stays size builtin.LessEq ts e = counted 2 ts e
  builtin_stays size builtin.GreaterEq ts e = counted 2 ts e
  builtin_stays size builtin.NumEq ts e = counted 2 ts e
  builtin_stays size builtin.NumNotEq ts e = counted 2 ts e
  builtin_stays size builtin.Integer ts e = counted 1 ts e
  builtin_stays size builtin.Atom ts e = counted 1 ts e
  builtin_stays size builtin.Write ts e = counted 1 ts e
  builtin_stays size builtin.Writeq ts e = counted 1 ts e
  builtin_stays size builtin.Nl ts e = counted 0 ts e
  builtin_stays size (builtin.Belongs type) ts e = type_test_stays size type ts e
  builtin_stays size builtin.IsVar ts e = counted 1 ts e
  builtin_stays size builtin.IsNonvar ts e = counted 1 ts e
  builtin_stays size builtin.IsGround ts e = counted 1 ts e

  call_stays : (program : Program) (p : ℕ) (ts : List Term) → is_call_of program p ts ≡ true → is_call_of program p (map (instance value) ts) ≡ true
  call_stays program p ts e = let parts = and_parts (is_pred_of program p) _ e in both (is_pred_of program p) _ parts.0 (counted (pred_of program p).arity ts parts.1)

  -- the outermost construct of an instance
  abbrev outer : layer.Goal-F Goal → layer.Goal-F Goal
  outer (layer.Call p ts) = layer.Call p (map (instance value) ts)
  outer (layer.Builtin b ts) = layer.Builtin b (map (instance value) ts)
  outer (layer.Conj a b) = layer.Conj (goal_instance value a) (goal_instance value b)
  outer (layer.Disj a b) = layer.Disj (goal_instance value a) (goal_instance value b)
  outer (layer.IfElse c a b) = layer.IfElse (goal_instance value c) (goal_instance value a) (goal_instance value b)
  outer (layer.Not a) = layer.Not (goal_instance value a)
  outer other = other

  outs_instance : (g : Goal) → out-Goal (goal_instance value g) ≡ outer (out-Goal g)
  outs_instance =
      ind_goals (λ g. out-Goal (goal_instance value g) ≡ outer (out-Goal g))
      (ap out-Goal (fold-True Goal (goal_instance_step value)) ∙ outs-True ∙ sym (ap outer outs-True))
      (ap out-Goal (fold-Fail Goal (goal_instance_step value)) ∙ outs-Fail ∙ sym (ap outer outs-Fail))
      (ap out-Goal (fold-Cut Goal (goal_instance_step value)) ∙ outs-Cut ∙ sym (ap outer outs-Cut))
      (λ p ts. ap out-Goal (fold-Call Goal (goal_instance_step value) p ts) ∙ outs-Call p _ ∙ sym (ap outer (outs-Call p ts)))
      (λ b ts. ap out-Goal (fold-Builtin Goal (goal_instance_step value) b ts) ∙ outs-Builtin b _ ∙ sym (ap outer (outs-Builtin b ts)))
      (λ a b p q. ap out-Goal (fold-Conj Goal (goal_instance_step value) a b) ∙ outs-Conj _ _ ∙ sym (ap outer (outs-Conj a b)))
      (λ a b p q. ap out-Goal (fold-Disj Goal (goal_instance_step value) a b) ∙ outs-Disj _ _ ∙ sym (ap outer (outs-Disj a b)))
      (λ c a b o p q. ap out-Goal (fold-IfElse Goal (goal_instance_step value) c a b) ∙ outs-IfElse _ _ _ ∙ sym (ap outer (outs-IfElse c a b)))
      (λ a p. ap out-Goal (fold-Not Goal (goal_instance_step value) a) ∙ outs-Not _ ∙ sym (ap outer (outs-Not a)))
      (ap out-Goal (fold-Exit Goal (goal_instance_step value)) ∙ outs-Exit ∙ sym (ap outer outs-Exit))

  exit_stays : (l : layer.Goal-F Goal) → is_exit (outer l) ≡ is_exit l
  exit_stays layer.True = refl
  exit_stays layer.Fail = refl
  exit_stays layer.Cut = refl
  exit_stays (layer.Call p ts) = refl
  exit_stays (layer.Builtin b ts) = refl
  exit_stays (layer.Conj a b) = refl
  exit_stays (layer.Disj a b) = refl
  exit_stays (layer.IfElse c a b) = refl
  exit_stays (layer.Not a) = refl
  exit_stays layer.Exit = refl

  chosen : (b : Bool) (x y : Goal) → cond b (goal_instance value x) (goal_instance value y) ≡ goal_instance value (cond b x y)
  chosen true x y = refl
  chosen false x y = refl

  without_exit_outer : (body : Goal) (l : layer.Goal-F Goal) → without_exit_at (goal_instance value body) (outer l) ≡ goal_instance value (without_exit_at body l)
  without_exit_outer body layer.True = refl
  without_exit_outer body layer.Fail = refl
  without_exit_outer body layer.Cut = refl
  without_exit_outer body (layer.Call p ts) = refl
  without_exit_outer body (layer.Builtin b ts) = refl
  without_exit_outer body (layer.Conj a b) =
      ap (λ e. cond e (goal_instance value a) (goal_instance value body)) (ap is_exit (outs_instance b) ∙ exit_stays (out-Goal b)) ∙ chosen (is_exit (out-Goal b)) a body
  without_exit_outer body (layer.Disj a b) = refl
  without_exit_outer body (layer.IfElse c a b) = refl
  without_exit_outer body (layer.Not a) = refl
  without_exit_outer body layer.Exit = sym (fold-True Goal (goal_instance_step value))

  -- an instance without its exit is the instance of what is without it
  without_exit_instance : (body : Goal) → without_exit (goal_instance value body) ≡ goal_instance value (without_exit body)
  without_exit_instance body = ap (without_exit_at (goal_instance value body)) (outs_instance body) ∙ without_exit_outer body (out-Goal body)

  module _ (program : Program) (vars others : ℕ) (keeps : (t : Term) → is_term_of program vars t ≡ true → is_term_of program others (instance value t) ≡ true) where
    all_stay : (ts : List Term) → list_all (is_term_of program vars) ts ≡ true → list_all (is_term_of program others) (map (instance value) ts) ≡ true
    all_stay = all_map (instance value) (is_term_of program vars) (is_term_of program others) keeps

    abbrev Stays : Goal → Type 0
    Stays g = is_goal_of program vars g ≡ true → is_goal_of program others (goal_instance value g) ≡ true

    goal_stays : (g : Goal) → Stays g
    goal_stays =
        ind_goals Stays
        (λ e. ap (is_goal_of program others) (fold-True Goal (goal_instance_step value)) ∙ fold-True Bool (goal_step program others))
        (λ e. ap (is_goal_of program others) (fold-Fail Goal (goal_instance_step value)) ∙ fold-Fail Bool (goal_step program others))
        (λ e. ap (is_goal_of program others) (fold-Cut Goal (goal_instance_step value)) ∙ fold-Cut Bool (goal_step program others))
        (λ p ts e. let parts = and_parts (is_call_of program p ts) _ (sym (fold-Call Bool (goal_step program vars) p ts) ∙ e) in
        ap (is_goal_of program others) (fold-Call Goal (goal_instance_step value) p ts) ∙ fold-Call Bool (goal_step program others) p (map (instance value) ts)
        ∙ both (is_call_of program p (map (instance value) ts)) _ (call_stays program p ts parts.0) (all_stay ts parts.1))
        (λ b ts e. let parts = and_parts (is_builtin_of (length program.grammar.rules) b ts) _ (sym (fold-Builtin Bool (goal_step program vars) b ts) ∙ e) in
        ap (is_goal_of program others) (fold-Builtin Goal (goal_instance_step value) b ts) ∙ fold-Builtin Bool (goal_step program others) b (map (instance value) ts)
        ∙ both (is_builtin_of (length program.grammar.rules) b (map (instance value) ts)) _ (builtin_stays (length program.grammar.rules) b ts parts.0) (all_stay ts parts.1))
        (λ a b p q e. let parts = and_parts (is_goal_of program vars a) _ (sym (fold-Conj Bool (goal_step program vars) a b) ∙ e) in
        ap (is_goal_of program others) (fold-Conj Goal (goal_instance_step value) a b) ∙ fold-Conj Bool (goal_step program others) (goal_instance value a) (goal_instance value b)
        ∙ both (is_goal_of program others (goal_instance value a)) _ (p parts.0) (q parts.1))
        (λ a b p q e. let parts = and_parts (is_goal_of program vars a) _ (sym (fold-Disj Bool (goal_step program vars) a b) ∙ e) in
        ap (is_goal_of program others) (fold-Disj Goal (goal_instance_step value) a b) ∙ fold-Disj Bool (goal_step program others) (goal_instance value a) (goal_instance value b)
        ∙ both (is_goal_of program others (goal_instance value a)) _ (p parts.0) (q parts.1))
        (λ c a b o p q e. let parts = and_parts (is_goal_of program vars c) _ (sym (fold-IfElse Bool (goal_step program vars) c a b) ∙ e) in
        let branches = and_parts (is_goal_of program vars a) _ parts.1 in
        ap (is_goal_of program others) (fold-IfElse Goal (goal_instance_step value) c a b) ∙ fold-IfElse Bool (goal_step program others) (goal_instance value c) (goal_instance value a) (goal_instance value b)
        ∙ both (is_goal_of program others (goal_instance value c)) _ (o parts.0) (both (is_goal_of program others (goal_instance value a)) _ (p branches.0) (q branches.1)))
        (λ a p e. ap (is_goal_of program others) (fold-Not Goal (goal_instance_step value) a) ∙ fold-Not Bool (goal_step program others) (goal_instance value a) ∙ p (sym (fold-Not Bool (goal_step program vars) a) ∙ e))
        (λ e. absurd (true≢false (sym e ∙ fold-Exit Bool (goal_step program vars))))

    body_stays : (g : Goal) → is_body_of program vars g ≡ true → is_body_of program others (goal_instance value g) ≡ true
    body_stays g e = ap (is_goal_of program others) (without_exit_instance g) ∙ goal_stays (without_exit g) e

-- a body that has no exit loses nothing
no_exit : (body : Goal) (l : layer.Goal-F Goal) → ends_in_exit_at l ≡ false → without_exit_at body l ≡ body
no_exit body layer.True e = refl
no_exit body layer.Fail e = refl
no_exit body layer.Cut e = refl
no_exit body (layer.Call p ts) e = refl
no_exit body (layer.Builtin b ts) e = refl
no_exit body (layer.Conj a b) e = ap (λ c. cond c a body) e
no_exit body (layer.Disj a b) e = refl
no_exit body (layer.IfElse c a b) e = refl
no_exit body (layer.Not a) e = refl
no_exit body layer.Exit e = absurd (true≢false e)

-- more names

module _ (terms : RangesStay) (program : Program) (names : List (List ℕ)) (longer : length program.names ≤ length names) where
  abbrev wide : Program
  wide = with_names names program

  name_up : (n : ℕ) → is_name_of program n ≡ true → is_name_of wide n ≡ true
  name_up n = lt_up n (length program.names) (length names) longer

  term_up : (vars : ℕ) (t : Term) → is_term_of program vars t ≡ true → is_term_of wide vars t ≡ true
  term_up vars t e = is_in_range wide vars t (terms.widened (length program.names) (length names) vars vars t longer (omega arith) (in_range program vars t e))

  all_terms_up : (vars : ℕ) (ts : List Term) → list_all (is_term_of program vars) ts ≡ true → list_all (is_term_of wide vars) ts ≡ true
  all_terms_up vars = all_up (is_term_of program vars) (is_term_of wide vars) (term_up vars)

  goal_up : (vars : ℕ) (g : Goal) → is_goal_of program vars g ≡ true → is_goal_of wide vars g ≡ true
  goal_up vars =
      ind_goals (λ g. is_goal_of program vars g ≡ true → is_goal_of wide vars g ≡ true)
      (λ e. fold-True Bool (goal_step wide vars))
      (λ e. fold-Fail Bool (goal_step wide vars))
      (λ e. fold-Cut Bool (goal_step wide vars))
      (λ p ts e. let parts = and_parts (is_call_of program p ts) _ (sym (fold-Call Bool (goal_step program vars) p ts) ∙ e) in
      fold-Call Bool (goal_step wide vars) p ts ∙ both (is_call_of program p ts) _ parts.0 (all_terms_up vars ts parts.1))
      (λ b ts e. let parts = and_parts (is_builtin_of (length program.grammar.rules) b ts) _ (sym (fold-Builtin Bool (goal_step program vars) b ts) ∙ e) in
      fold-Builtin Bool (goal_step wide vars) b ts ∙ both (is_builtin_of (length program.grammar.rules) b ts) _ parts.0 (all_terms_up vars ts parts.1))
      (λ a b p q e. let parts = and_parts (is_goal_of program vars a) _ (sym (fold-Conj Bool (goal_step program vars) a b) ∙ e) in
      fold-Conj Bool (goal_step wide vars) a b ∙ both (is_goal_of wide vars a) _ (p parts.0) (q parts.1))
      (λ a b p q e. let parts = and_parts (is_goal_of program vars a) _ (sym (fold-Disj Bool (goal_step program vars) a b) ∙ e) in
      fold-Disj Bool (goal_step wide vars) a b ∙ both (is_goal_of wide vars a) _ (p parts.0) (q parts.1))
      (λ c a b o p q e. let parts = and_parts (is_goal_of program vars c) _ (sym (fold-IfElse Bool (goal_step program vars) c a b) ∙ e) in
      let branches = and_parts (is_goal_of program vars a) _ parts.1 in
      fold-IfElse Bool (goal_step wide vars) c a b ∙ both (is_goal_of wide vars c) _ (o parts.0) (both (is_goal_of wide vars a) _ (p branches.0) (q branches.1)))
      (λ a p e. fold-Not Bool (goal_step wide vars) a ∙ p (sym (fold-Not Bool (goal_step program vars) a) ∙ e))
      (λ e. absurd (true≢false (sym e ∙ fold-Exit Bool (goal_step program vars))))

  clause_up : (arity : ℕ) (c : Clause) → is_clause_of program arity c ≡ true → is_clause_of wide arity c ≡ true
  clause_up arity c e =
      let parts = and_parts ((length c.head == arity) && list_all (is_term_of program c.vars) c.head) _ e in
      let head = and_parts (length c.head == arity) _ parts.0 in
      let rest = and_parts (is_body_of program c.vars c.body) _ parts.1 in
      both ((length c.head == arity) && list_all (is_term_of wide c.vars) c.head) _
      (both (length c.head == arity) _ head.0 (all_terms_up c.vars c.head head.1))
      (both (is_body_of wide c.vars c.body) _ (goal_up c.vars (without_exit c.body) rest.0) (name_up c.place.file rest.1))

  rule_up : (r : Rule) → is_named_rule program r ≡ true → is_named_rule wide r ≡ true
  rule_up (rule.Atom a) e = name_up a e
  rule_up (rule.Node f ns) e = name_up f e
  rule_up (rule.Basic b) e = refl
  rule_up (rule.Int n) e = refl
  rule_up (rule.Unit n) e = refl

  claim_up : (c : Claim) → is_claim_of program c ≡ true → is_claim_of wide c ≡ true
  claim_up c e = let parts = and_parts (is_name_of program c.place.file) _ e in both (is_name_of wide c.place.file) _ (name_up c.place.file parts.0) parts.1

  pred_up : (p : ℕ) (pred : Pred) → IsPred program p pred → IsPred wide p pred
  pred_up p pred is = record {
    «module» = name_up pred.«module» is.«module»;
    name = name_up pred.name is.name;
    arity = is.arity;
    clauses = all_up (is_clause_of program pred.arity) (is_clause_of wide pred.arity) (clause_up pred.arity) pred.clauses is.clauses;
    conds = is.conds;
    calls_first = is.calls_first;
    call_checks = record {
      kinds = is.call_checks.kinds;
      one_calls = is.call_checks.one_calls;
      notes_rise = is.call_checks.notes_rise;
      one_mark = is.call_checks.one_mark;
      marks_rise = is.call_checks.marks_rise;
    };
  }

  cond_up : (c : ℕ) (condition : Cond) → IsCond program c condition → IsCond wide c condition
  cond_up c condition is = record { id = is.id; pred = is.pred; place = name_up condition.place.file is.place; kind = is.kind }

  program_up : IsProgram program → IsProgram wide
  program_up is = record {
    ops = is.ops;
    files = all_up (is_name_of program) (is_name_of wide) name_up program.files is.files;
    preds = λ p pred at. pred_up p pred (is.preds p pred at);
    conds = λ c condition at. cond_up c condition (is.conds c condition at);
    claims = all_up (is_claim_of program) (is_claim_of wide) claim_up program.claims is.claims;
    grammar = is.grammar;
    rules = all_up (list_all (is_named_rule program)) (list_all (is_named_rule wide)) (all_up (is_named_rule program) (is_named_rule wide) rule_up) program.grammar.rules is.rules;
    exports = is.exports;
    entries = is.entries;
  }

prefix_length : (front all : List (List ℕ)) → IsPrefix front all → length front ≤ length all
prefix_length front all is = let e : _ = sym (length-append front is.0) ∙ ap length is.1 in omega (arith, e)

module _ (terms : RangesStay) where
  term_stays : (program : Program) (vars others : ℕ) (value : ℕ → Term) → AreTermsOf program vars others value → (t : Term) → is_term_of program vars t ≡ true → is_term_of program others (instance value t) ≡ true
  term_stays program vars others value are t e =
      is_in_range program others (instance value t) (terms.instances (length program.names) vars others value t (in_range program vars t e) (λ v lt. in_range program others (value v) (are v lt)))

  pub ranges_are_kept : RangesAreKept
  ranges_are_kept = record {
    basic = record { basic = refl; few = omega arith; closed = refl };
    terms = term_stays;
    goals = λ program vars others value are. goal_stays value program vars others (term_stays program vars others value are);
    bodies = λ program vars others value are. body_stays value program vars others (term_stays program vars others value are);
    linked = λ program vars g none e. ap (is_goal_of program vars) (sym (no_exit g (out-Goal g) none)) ∙ e;
    preds = λ program is p lt. is.preds p (pred_of program p) (slice_get-get_or program.preds p no_pred lt);
    more_names = λ program names is_prefix is. program_up terms program names (prefix_length program.names names is_prefix) is;
  }
