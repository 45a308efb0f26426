-- The variables of a clause of a program in range are below their number.
use Rattle.std.proofs.Common.{◌≡◌, ◌≤◌, ◌<◌, ℕ, zero, suc, Bool, true, List, [], ◌∷◌, map, length, refl, sym, ap, ◌∙◌, subst, arith}
use Rattle.std.proofs.lemmas.Bool.{lt-leb, and_parts}
use Rattle.std.proofs.lemmas.Bool.Decides.{nat_tests}
use Rattle.std.proofs.lemmas.Option.{none-some, same_Some}
use Rattle.std.specs.Prelude.{if◌then◌else◌, nat_le, ◌==◌, ◌&&◌, slice_get, slice_index_or, Some}
use Rattle.std.specs.List.{list_all, AllByRecursion}
use Rattle.term_core.specs.declared.terms.Term.{Term, Var, Atom, Node}
use Rattle.term_core.specs.Ranges.{has_names}
use Rattle.term_core.specs.Terms.{instance, instance_step, above, above_step, greatest}
use Rattle.term_core.proofs.TermFolds.{fold-Var, fold-Int, fold-Atom, fold-Node, ind_terms}
use Rattle.term_core.proofs.TermLaws.{instance-Var, instance-Node}
use Rattle.prog_data.specs.declared.goals.Goal.{Goal}
use Rattle.prog_data.specs.declared.goals.Goal as goal
use Rattle.prog_data.specs.declared.programs.Clause.{Clause}
use Rattle.prog_data.specs.declared.programs.Pred.{Pred}
use Rattle.prog_data.specs.declared.programs.Program.{Program}
use Rattle.prog_data.specs.Goals.{goal_instance, without_exit, no_pred, pred_of}
use Rattle.prog_data.specs.Ranges.{is_term_of, is_builtin_of, is_call_of, goal_step, is_goal_of, is_body_of, is_clause_of}
use Rattle.prog_data.specs.Programs.{IsProgram}
use Rattle.prog_data.proofs.GoalFolds.{ind_goals, fold-Call, fold-Builtin, fold-Conj, fold-Disj, fold-IfElse, fold-Not}
use Rattle.prog_data.proofs.GoalInstances.{at_true, at_fail, at_cut, at_call, at_builtin, at_conj, at_disj, at_if, at_not, at_exit}
use Rattle.machine_model.specs.Leaner.{clause_at}
use Rattle.machine_model.specs.LeanerLaws.{below}

-- terms

below_var : (n v : ℕ) → v < n → below n v ≡ Var v
below_var n v lt = ap (λ b. if b then Atom 0 else Var v) (lt-leb n v lt)

-- a term all of whose variables are below a number is unchanged
pub above_below : (n : ℕ) (t : Term) → above t ≤ n → instance (below n) t ≡ t
above_below n = ind_terms (λ t. above t ≤ n → instance (below n) t ≡ t)
    (λ v le. let e = fold-Var ℕ above_step v in instance-Var (below n) v ∙ below_var n v (omega (arith, e, le)))
    (λ k le. fold-Int Term (instance_step (below n)) k)
    (λ a le. fold-Atom Term (instance_step (below n)) a)
    (λ f ts h le. let e = fold-Node ℕ above_step f ts in instance-Node (below n) f ts ∙ ap (Node f) (each ts h (omega (arith, e, le))))
  where
    each : (ts : List Term) → AllByRecursion (λ t. above t ≤ n → instance (below n) t ≡ t) ts → greatest (map above ts) ≤ n → map (instance (below n)) ts ≡ ts
    each [] h le = refl
    each (t ∷ ts) h le = λ i. h.0 (omega (arith, le)) i ∷ each ts h.1 (omega (arith, le)) i

le_of : (a b : ℕ) → nat_le a b ≡ true → a ≤ b
le_of a b e = grind (arith, nat_tests)

-- clauses

-- head and body are unchanged where the variables below their number are kept and others lost
pub record IsClosed (clause : Clause) : Type 0 where
  pub head : map (instance (below clause.vars)) clause.head ≡ clause.head
  pub body : goal_instance (below clause.vars) (without_exit clause.body) ≡ without_exit clause.body

-- so are those of all clauses
abbrev pub AreClosed : Program → Type 0
AreClosed program = (p k : ℕ) (clause : Clause) → clause_at program p k ≡ Some clause → IsClosed clause

module _ (program : Program) (vars : ℕ) where
  term_closed : (t : Term) → is_term_of program vars t ≡ true → instance (below vars) t ≡ t
  term_closed t e = above_below vars t (le_of (above t) vars (and_parts (has_names (length program.names) t) _ e).1)

  terms_closed : (ts : List Term) → list_all (is_term_of program vars) ts ≡ true → map (instance (below vars)) ts ≡ ts
  terms_closed [] e = refl
  terms_closed (t ∷ ts) e =
      let parts = and_parts (is_term_of program vars t) _ e in
      ap (λ x. x ∷ map (instance (below vars)) ts) (term_closed t parts.0) ∙ ap (λ xs. t ∷ xs) (terms_closed ts parts.1)

  goal_closed : (g : Goal) → is_goal_of program vars g ≡ true → goal_instance (below vars) g ≡ g
  goal_closed = ind_goals (λ g. is_goal_of program vars g ≡ true → goal_instance (below vars) g ≡ g)
      (λ e. at_true (below vars))
      (λ e. at_fail (below vars))
      (λ e. at_cut (below vars))
      (λ p ts e. let parts = and_parts (is_call_of program p ts) _ (sym (fold-Call Bool (goal_step program vars) p ts) ∙ e) in
      at_call (below vars) p ts ∙ ap (goal.Call p) (terms_closed ts parts.1))
      (λ b ts e. let parts = and_parts (is_builtin_of (length program.grammar.rules) b ts) _ (sym (fold-Builtin Bool (goal_step program vars) b ts) ∙ e) in
      at_builtin (below vars) b ts ∙ ap (goal.Builtin b) (terms_closed ts parts.1))
      (λ x y h k e. let parts = and_parts (is_goal_of program vars x) _ (sym (fold-Conj Bool (goal_step program vars) x y) ∙ e) in
      at_conj (below vars) x y ∙ (λ i. goal.Conj (h parts.0 i) (k parts.1 i)))
      (λ x y h k e. let parts = and_parts (is_goal_of program vars x) _ (sym (fold-Disj Bool (goal_step program vars) x y) ∙ e) in
      at_disj (below vars) x y ∙ (λ i. goal.Disj (h parts.0 i) (k parts.1 i)))
      (λ x y z h k l e.
      let parts = and_parts (is_goal_of program vars x) _ (sym (fold-IfElse Bool (goal_step program vars) x y z) ∙ e) in
      let branches = and_parts (is_goal_of program vars y) _ parts.1 in
      at_if (below vars) x y z ∙ (λ i. goal.IfElse (h parts.0 i) (k branches.0 i) (l branches.1 i)))
      (λ x h e. at_not (below vars) x ∙ ap goal.Not (h (sym (fold-Not Bool (goal_step program vars) x) ∙ e)))
      (λ e. at_exit (below vars))

clause_closed : (program : Program) (arity : ℕ) (clause : Clause) → is_clause_of program arity clause ≡ true → IsClosed clause
clause_closed program arity clause e =
    let parts = and_parts ((length clause.head == arity) && list_all (is_term_of program clause.vars) clause.head) _ e in
    let head = and_parts (length clause.head == arity) _ parts.0 in
    let rest = and_parts (is_body_of program clause.vars clause.body) _ parts.1 in
    record { head = terms_closed program clause.vars clause.head head.1; body = goal_closed program clause.vars (without_exit clause.body) rest.0 }

-- programs

-- what holds of each predicate that is there, and of one without clauses, holds of the predicate with any number
each_pred : (P : Pred → Type 0) → P no_pred → (preds : List Pred) → ((p : ℕ) (pred : Pred) → slice_get preds p ≡ Some pred → P pred) → (p : ℕ) → P (slice_index_or preds p no_pred)
each_pred P none [] all p = none
each_pred P none (pred ∷ preds) all zero = all zero pred refl
each_pred P none (pred ∷ preds) all (suc p) = each_pred P none preds (λ q one there. all (suc q) one there) p

found_clause : (test : Clause → Bool) (cl : List Clause) → list_all test cl ≡ true → (k : ℕ) (clause : Clause) → slice_get cl k ≡ Some clause → test clause ≡ true
found_clause test [] all k clause there = absurd (none-some clause there)
found_clause test (c ∷ cl) all zero clause there = subst (λ x. test x ≡ true) (same_Some c clause there) (and_parts (test c) _ all).0
found_clause test (c ∷ cl) all (suc k) clause there = found_clause test cl (and_parts (test c) _ all).1 k clause there

pub clauses_closed : (program : Program) → IsProgram program → AreClosed program
clauses_closed program is p k clause there =
    let pred = pred_of program p in
    let all : list_all (is_clause_of program pred.arity) pred.clauses ≡ true =
    each_pred (λ pred. list_all (is_clause_of program pred.arity) pred.clauses ≡ true) refl program.preds (λ q one found. (is.preds q one found).clauses) p in
    clause_closed program pred.arity clause (found_clause (is_clause_of program pred.arity) pred.clauses all k clause there)
