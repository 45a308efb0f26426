-- Clauses of a program in range.
use Rattle.std.proofs.Common.{◌≡◌, ◌≤◌, ◌<◌, ◌⊎◌, inl, inr, ◌+◌, ℕ, zero, suc, List, [], ◌∷◌, map, length, None, Some, refl, sym, ap, subst, ◌∙◌, arith, true≢false}
use Rattle.std.specs.Prelude.{Bool, true, false, nat_le, ◌||◌, ◌&&◌, ◌==◌, slice_get, slice_index_or}
use Rattle.std.specs.List.{list_all, list_any, AllByRecursion}
use Rattle.std.proofs.lemmas.Bool.{cases_lt, and_parts, ne_eqb}
use Rattle.std.proofs.lemmas.Bool.Decides.{nat_tests}
use Rattle.std.proofs.lemmas.Option.{none-some, same_Some}
use Rattle.term_core.specs.declared.terms.Term.{Term, Var}
use Rattle.term_core.specs.Terms.{occurs, occurs_step, above, above_step, greatest}
use Rattle.term_core.specs.Ranges.{has_names}
use Rattle.term_core.proofs.TermFolds.{fold-Var, fold-Int, fold-Atom, fold-Node, ind_terms}
use Rattle.term_core.proofs.Occurrences.{occurs-Node, occurs-Var}
use Rattle.prog_data.specs.declared.programs.Clause.{Clause}
use Rattle.prog_data.specs.declared.programs.Pred.{Pred}
use Rattle.prog_data.specs.declared.programs.Program.{Program}
use Rattle.prog_data.specs.Goals.{no_pred, pred_of, without_exit}
use Rattle.prog_data.specs.Programs.{IsProgram}
use Rattle.prog_data.specs.Ranges.{is_term_of, is_goal_of, is_body_of, is_clause_of}
use Rattle.machine_model.specs.Leaner.{clause_at}
use Rattle.term_heap.specs.Loads.{IsPlaced}

-- a predicate that is not there has no clauses

absent_index : {A : Type 0} (xs : List A) (i : ℕ) (d : A) → slice_get xs i ≡ None → slice_index_or xs i d ≡ d
absent_index [] i d e = refl
absent_index (x ∷ xs) zero d e = absurd (none-some x (sym e))
absent_index (x ∷ xs) (suc i) d e = absent_index xs i d e

pub absent_pred : (program : Program) (p : ℕ) → slice_get program.preds p ≡ None → [] ≡ (pred_of program p).clauses
absent_pred program p e = ap (λ pred. pred.clauses) (sym (absent_index program.preds p no_pred e))

-- a clause that is there is in range

each_pred : (P : Pred → Type 0) → P no_pred → (preds : List Pred) → ((p : ℕ) (pred : Pred) → slice_get preds p ≡ Some pred → P pred) → (p : ℕ) → P (slice_index_or preds p no_pred)
each_pred P none [] all p = none
each_pred P none (pred ∷ preds) all zero = all zero pred refl
each_pred P none (pred ∷ preds) all (suc p) = each_pred P none preds (λ q one there. all (suc q) one there) p

found_clause : (test : Clause → Bool) (cl : List Clause) → list_all test cl ≡ true → (k : ℕ) (clause : Clause) → slice_get cl k ≡ Some clause → test clause ≡ true
found_clause test [] all k clause there = absurd (none-some clause there)
found_clause test (c ∷ cl) all zero clause there = subst (λ x. test x ≡ true) (same_Some c clause there) (and_parts (test c) _ all).0
found_clause test (c ∷ cl) all (suc k) clause there = found_clause test cl (and_parts (test c) _ all).1 k clause there

-- its terms and its body are
pub record IsInRange (program : Program) (clause : Clause) : Type 0 where
  pub head : list_all (is_term_of program clause.vars) clause.head ≡ true
  pub body : is_goal_of program clause.vars (without_exit clause.body) ≡ true

parts_of_clause : (program : Program) (arity : ℕ) (clause : Clause) → is_clause_of program arity clause ≡ true → IsInRange program clause
parts_of_clause program arity clause e =
    let parts = and_parts ((length clause.head == arity) && list_all (is_term_of program clause.vars) clause.head) _ e in
    let head = and_parts (length clause.head == arity) _ parts.0 in
    let rest = and_parts (is_body_of program clause.vars clause.body) _ parts.1 in
    record { head = head.1; body = rest.0 }

pub clause_in_range : (program : Program) → IsProgram program → (p k : ℕ) (clause : Clause) → clause_at program p k ≡ Some clause → IsInRange program clause
clause_in_range program is p k clause there =
    let pred = pred_of program p in
    let all : list_all (is_clause_of program pred.arity) pred.clauses ≡ true =
    each_pred (λ pred. list_all (is_clause_of program pred.arity) pred.clauses ≡ true) refl program.preds (λ q one found. (is.preds q one found).clauses) p in
    parts_of_clause program pred.arity clause (found_clause (is_clause_of program pred.arity) pred.clauses all k clause there)

-- terms in range are placed

none_of : (a b : Bool) → a ≡ false → b ≡ false → (a || b) ≡ false
none_of true b e h = absurd (true≢false e)
none_of false b e h = h

absent_above : (v : ℕ) (t : Term) → above t ≤ v → occurs v t ≡ false
absent_above v =
    ind_terms (λ t. above t ≤ v → occurs v t ≡ false)
    (λ u le. occurs-Var v u ∙ ne_eqb v u (λ e. let p : above (Var u) ≡ u + 1 = fold-Var ℕ above_step u in omega (arith, le, e, p)))
    (λ n le. fold-Int Bool (occurs_step v) n)
    (λ a le. fold-Atom Bool (occurs_step v) a)
    (λ f ts ih le. occurs-Node v f ts ∙ each ts ih (subst (λ k. k ≤ v) (fold-Node ℕ above_step f ts) le))
  where
    each : (ts : List Term) → AllByRecursion (λ t. above t ≤ v → occurs v t ≡ false) ts → greatest (map above ts) ≤ v → list_any (λ b. b) (map (occurs v) ts) ≡ false
    each [] ih le = refl
    each (t ∷ ts) ih le = none_of _ _ (ih.0 (omega (arith, le))) (each ts ih.1 (omega (arith, le)))

le_of : (a b : ℕ) → nat_le a b ≡ true → a ≤ b
le_of a b e = grind (arith, nat_tests)

-- a variable at or above a term's greatest is not in it
pub placed_by : (vars size base : ℕ) → base + vars ≤ size → (t : Term) → above t ≤ vars → IsPlaced size base t
placed_by vars size base enough t most v o = by_number (cases_lt v vars) where
  by_number : (v < vars) ⊎ (vars ≤ v) → v + base < size
  by_number (inl lt) = omega (arith, lt, enough)
  by_number (inr le) = absurd (true≢false (sym o ∙ absent_above v t (omega (arith, le, most))))

pub placed_terms : (program : Program) (vars size base : ℕ) → base + vars ≤ size → (ts : List Term) → list_all (is_term_of program vars) ts ≡ true → AllByRecursion (IsPlaced size base) ts
placed_terms program vars size base enough [] e = tt
placed_terms program vars size base enough (t ∷ ts) e =
    let parts = and_parts (is_term_of program vars t) _ e in
    (placed_by vars size base enough t (le_of (above t) vars (and_parts (has_names (length program.names) t) _ parts.0).1), placed_terms program vars size base enough ts parts.1)
