-- What solved equations and the variables of a clause do to names.
use Rattle.std.proofs.Common.{◌≡◌, ◌≤◌, ◌<◌, ℕ, ◌+◌, ◌-◌, ◌⊎◌, inl, inr, List, [], ◌∷◌, map, refl, ap, sym, ◌∙◌, arith}
use Rattle.std.proofs.lemmas.Bool.{cases_lt, le-leb, lt-leb}
use Rattle.std.specs.Prelude.{if◌then◌else◌, nat_le}
use Rattle.std.specs.List.{AllByRecursion}
use Rattle.term_core.specs.declared.terms.Term.{Term, Var, Atom, Node}
use Rattle.term_core.specs.declared.equations.Equation.{Equation}
use Rattle.term_core.specs.Terms.{instance, instance_step, higher, rename}
use Rattle.term_core.specs.Unify.{pairs}
use Rattle.term_core.proofs.TermFolds.{fold-Int, fold-Atom, ind_terms}
use Rattle.term_core.proofs.TermLaws.{instance-Var, instance-Node, instance-instance, map_map}
use Rattle.prog_data.specs.declared.goals.Goal.{Goal, Call, Builtin, Conj, Disj, IfElse, Not}
use Rattle.prog_data.specs.Goals.{goal_instance}
use Rattle.prog_data.proofs.GoalFolds.{ind_goals}
use Rattle.machine_model.specs.State.{Item, item_instance, frame_instance}
use Rattle.term_core.specs.Variants.{AreVariants, IsMostGeneral}
use Rattle.term_core.proofs.VariantLaws.{general_variants, instance_pairs}
use Rattle.term_core.proofs.NameLaws.{Returns, Renamed, returns_var, returns_parts}
use Rattle.term_core.proofs.VariantTests.{all_return}
use Rattle.machine_model.specs.Leaner.{Kind, Renaming, GoalsAgree, TermsAgree, ItemsAgree, does, cuts, exits, idle, FramesAgree, frames}
use Rattle.machine_model.specs.Leaner as rel
use Rattle.machine_model.specs.LeanerLaws.{below}
use Rattle.prog_data.proofs.GoalInstances.{goal_instance-instance, at_true, at_fail, at_cut, at_call, at_builtin, at_conj, at_disj, at_if, at_not, at_exit}
use Rattle.machine_model.proofs.LeanerGoals.{call_inside, builtin_inside, conj_inside, disj_inside, if_inside, not_inside}

-- values put into both

module _ (f g put put' : ℕ → Term) (square : (v : ℕ) → instance g (put v) ≡ instance put' (f v)) where
  put_term : (t : Term) → instance g (instance put t) ≡ instance put' (instance f t)
  put_term t = instance-instance g put t ∙ (λ i. instance (λ v. square v i) t) ∙ sym (instance-instance put' f t)

  put_terms : (ts ts' : List Term) → map (instance f) ts ≡ ts' → map (instance g) (map (instance put) ts) ≡ map (instance put') ts'
  put_terms ts ts' e = map_map (instance g) (instance put) ts ∙ (λ i. map (λ t. put_term t i) ts) ∙ sym (map_map (instance put') (instance f) ts) ∙ ap (map (instance put')) e

  put_goal : (x x' : Goal) → goal_instance f x ≡ x' → goal_instance g (goal_instance put x) ≡ goal_instance put' x'
  put_goal x x' e = goal_instance-instance g put x ∙ (λ i. goal_instance (λ v. square v i) x) ∙ sym (goal_instance-instance put' f x) ∙ ap (goal_instance put') e

module _ (there back there' back' put put' : ℕ → Term) (square : (v : ℕ) → instance there' (put v) ≡ instance put' (there v)) (square' : (v : ℕ) → instance back' (put' v) ≡ instance put (back v)) where
  pub terms_put : {ts ts' : List Term} → TermsAgree there back ts ts' → TermsAgree there' back' (map (instance put) ts) (map (instance put') ts')
  terms_put {ts} {ts'} are = record { is_there = put_terms there there' put put' square ts ts' are.is_there; is_back = put_terms back back' put' put square' ts' ts are.is_back }

  pub goals_put : {x x' : Goal} → GoalsAgree there back x x' → GoalsAgree there' back' (goal_instance put x) (goal_instance put' x')
  goals_put {x} {x'} are = record { is_there = put_goal there there' put put' square x x' are.is_there; is_back = put_goal back back' put' put square' x' x are.is_back }

  pub items_put : {ks : List Kind} {is is' : List Item} → ItemsAgree there back ks is is' → ItemsAgree there' back' ks (map (item_instance put) is) (map (item_instance put') is')
  items_put rel.none = rel.none
  items_put (does js g place rest) = does js (goals_put g) place (items_put rest)
  items_put (cuts js place rest) = cuts js place (items_put rest)
  items_put (exits args m rest) = exits (terms_put args) m (items_put rest)
  items_put (idle rest) = idle (items_put rest)

-- after solved equations

-- the names after both have got values
abbrev names_solved : {n n' : ℕ} → Renaming n n' → (put put' : ℕ → Term) → Renaming n n'
names_solved names put put' = record {
  there = λ v. instance put' (names.there v);
  back = λ v. instance put (names.back v);
  there_ends = λ v le. ap (instance put') (names.there_ends v le) ∙ fold-Atom Term (instance_step put') 0;
  back_ends = λ v le. ap (instance put) (names.back_ends v le) ∙ fold-Atom Term (instance_step put) 0;
}

solved_square : (there back : ℕ → Term) (es es' : List Equation) (put put' : ℕ → Term) → AreVariants there back es es' → IsMostGeneral es put → IsMostGeneral es' put' → (v : ℕ) → instance (λ w. instance put' (there w)) (put v) ≡ instance put' (there v)
solved_square there back es es' put put' are m m' v =
    ap (instance (λ w. instance put' (there w))) (sym (instance-Var put v)) ∙ general_variants there back es es' put put' are m m' (Var v) (there v) (instance-Var there v)

-- what most general values make of two frames
pub frames_solved : {ks : List Kind} {n n' : ℕ} {is is' : List Item} {query query' : Term} (names : Renaming n n') (es es' : List Equation) (put put' : ℕ → Term) →
    AreVariants names.there names.back es es' → IsMostGeneral es put → IsMostGeneral es' put' → ItemsAgree names.there names.back ks is is' → TermsAgree names.there names.back (query ∷ []) (query' ∷ []) →
    FramesAgree ks n n' (frame_instance put (record { items = is; query = query })) (frame_instance put' (record { items = is'; query = query' }))
frames_solved names es es' put put' are m m' items q =
    let back_are : AreVariants names.back names.there es' es = record { is_there = are.is_back; is_back = are.is_there } in
    let square = solved_square names.there names.back es es' put put' are m m' in
    let square' = solved_square names.back names.there es' es put' put back_are m' m in
    let all = names_solved names put put' in
    frames all (items_put names.there names.back all.there all.back put put' square square' items) (terms_put names.there names.back all.there all.back put put' square square' q)

-- with the variables of a clause

-- names below n go on as they were, and the next ones are other
module _ (n : ℕ) (there back there' : ℕ → Term) (ends : (v : ℕ) → n ≤ v → there v ≡ Atom 0) (agree : (v : ℕ) → v < n → there' v ≡ there v) where
  kept_var : (v : ℕ) → Renamed there back v → (v < n) ⊎ (n ≤ v) → there' v ≡ there v
  kept_var v name (inl lt) = agree v lt
  kept_var v name (inr le) = absurd (apart (sym (ends v le) ∙ name.is_there)) where
    apart : Atom 0 ≡ Var name.name → ⊥
    apart e = cc

  kept_term : (t : Term) → Returns there back t → instance there' t ≡ instance there t
  kept_term = ind_terms (λ t. Returns there back t → instance there' t ≡ instance there t)
      (λ v r. instance-Var there' v ∙ kept_var v (returns_var there back v r) (cases_lt v n) ∙ sym (instance-Var there v))
      (λ k r. fold-Int Term (instance_step there') k ∙ sym (fold-Int Term (instance_step there) k))
      (λ a r. fold-Atom Term (instance_step there') a ∙ sym (fold-Atom Term (instance_step there) a))
      (λ f ts h r. instance-Node there' f ts ∙ ap (Node f) (each ts h (returns_parts there back f ts r)) ∙ sym (instance-Node there f ts))
    where
      each : (ts : List Term) → AllByRecursion (λ t. Returns there back t → instance there' t ≡ instance there t) ts → AllByRecursion (Returns there back) ts → map (instance there') ts ≡ map (instance there) ts
      each [] h r = refl
      each (t ∷ ts) h r = λ i. h.0 r.0 i ∷ each ts h.1 r.1 i

  kept_all : (ts : List Term) → AllByRecursion (Returns there back) ts → map (instance there') ts ≡ map (instance there) ts
  kept_all [] r = refl
  kept_all (t ∷ ts) r = λ i. kept_term t r.0 i ∷ kept_all ts r.1 i

  pub kept_terms : (ts ts' : List Term) → map (instance there) ts ≡ ts' → map (instance back) ts' ≡ ts → map (instance there') ts ≡ ts'
  kept_terms ts ts' e b = kept_all ts (all_return there back ts (ap (map (instance back)) e ∙ b)) ∙ e

  these : (ts : List Term) → map (instance back) (map (instance there) ts) ≡ ts → map (instance there') ts ≡ map (instance there) ts
  these ts e = kept_all ts (all_return there back ts e)

  abbrev GoesOn : Goal → Type 0
  GoesOn x = goal_instance back (goal_instance there x) ≡ x → goal_instance there' x ≡ goal_instance there x

  kept_each : (x : Goal) → GoesOn x
  kept_each = ind_goals GoesOn
      (λ e. at_true there' ∙ sym (at_true there))
      (λ e. at_fail there' ∙ sym (at_fail there))
      (λ e. at_cut there' ∙ sym (at_cut there))
      (λ p ts e. at_call there' p ts ∙ ap (Call p) (these ts (call_inside p _ ts (sym (ap (goal_instance back) (at_call there p ts) ∙ at_call back p _) ∙ e))) ∙ sym (at_call there p ts))
      (λ b ts e. at_builtin there' b ts ∙ ap (Builtin b) (these ts (builtin_inside b _ ts (sym (ap (goal_instance back) (at_builtin there b ts) ∙ at_builtin back b _) ∙ e))) ∙ sym (at_builtin there b ts))
      (λ x y h k e.
      let parts = conj_inside _ _ x y (sym (ap (goal_instance back) (at_conj there x y) ∙ at_conj back _ _) ∙ e) in
      at_conj there' x y ∙ (λ i. Conj (h parts.0 i) (k parts.1 i)) ∙ sym (at_conj there x y))
      (λ x y h k e.
      let parts = disj_inside _ _ x y (sym (ap (goal_instance back) (at_disj there x y) ∙ at_disj back _ _) ∙ e) in
      at_disj there' x y ∙ (λ i. Disj (h parts.0 i) (k parts.1 i)) ∙ sym (at_disj there x y))
      (λ x y z h k l e.
      let parts = if_inside _ _ _ x y z (sym (ap (goal_instance back) (at_if there x y z) ∙ at_if back _ _ _) ∙ e) in
      at_if there' x y z ∙ (λ i. IfElse (h parts.0 i) (k parts.1 i) (l parts.2 i)) ∙ sym (at_if there x y z))
      (λ x h e. at_not there' x ∙ ap Not (h (not_inside _ x (sym (ap (goal_instance back) (at_not there x) ∙ at_not back _) ∙ e))) ∙ sym (at_not there x))
      (λ e. at_exit there' ∙ sym (at_exit there))

  pub kept_goal : (x x' : Goal) → goal_instance there x ≡ x' → goal_instance back x' ≡ x → goal_instance there' x ≡ x'
  kept_goal x x' e b = kept_each x (ap (goal_instance back) e ∙ b) ∙ e

-- names below n as they were, and behind them the variables of a clause
abbrev pub with_clause : (n n' vars : ℕ) → (ℕ → Term) → ℕ → Term
with_clause n n' vars old v = if nat_le n v then rename n' (below vars (v - n)) else old v

module _ (n n' vars : ℕ) (old : ℕ → Term) where
  pub with_clause_old : (v : ℕ) → v < n → with_clause n n' vars old v ≡ old v
  with_clause_old v lt = ap (λ b. if b then rename n' (below vars (v - n)) else old v) (lt-leb n v lt)

  pub with_clause_new : (v : ℕ) → instance (with_clause n n' vars old) (higher n v) ≡ rename n' (below vars v)
  with_clause_new v =
      let same : (v + n) - n ≡ v = omega arith in
      instance-Var (with_clause n n' vars old) (v + n) ∙ ap (λ b. if b then rename n' (below vars ((v + n) - n)) else old (v + n)) (le-leb n (v + n) (omega arith)) ∙ ap (λ w. rename n' (below vars w)) same

  pub with_clause_ends : (v : ℕ) → n + vars ≤ v → with_clause n n' vars old v ≡ Atom 0
  with_clause_ends v le =
      ap (λ b. if b then rename n' (below vars (v - n)) else old v) (le-leb n v (omega (arith, le)))
      ∙ ap (λ b. rename n' (if b then Atom 0 else Var (v - n))) (le-leb vars (v - n) (omega (arith, le))) ∙ fold-Atom Term (instance_step (higher n')) 0

-- the names with the variables of a clause
abbrev pub names_entered : {n n' : ℕ} → Renaming n n' → (vars : ℕ) → Renaming (n + vars) (n' + vars)
names_entered {n} {n'} names vars = record {
  there = with_clause n n' vars names.there;
  back = with_clause n' n vars names.back;
  there_ends = with_clause_ends n n' vars names.there;
  back_ends = with_clause_ends n' n vars names.back;
}

module _ {n n' : ℕ} (names : Renaming n n') (vars : ℕ) where
  abbrev there' : ℕ → Term
  there' = with_clause n n' vars names.there

  abbrev back' : ℕ → Term
  back' = with_clause n' n vars names.back

  pub terms_entered : {ts ts' : List Term} → TermsAgree names.there names.back ts ts' → TermsAgree there' back' ts ts'
  terms_entered {ts} {ts'} are = record {
    is_there = kept_terms n names.there names.back there' names.there_ends (with_clause_old n n' vars names.there) ts ts' are.is_there are.is_back;
    is_back = kept_terms n' names.back names.there back' names.back_ends (with_clause_old n' n vars names.back) ts' ts are.is_back are.is_there;
  }

  pub goals_entered : {x x' : Goal} → GoalsAgree names.there names.back x x' → GoalsAgree there' back' x x'
  goals_entered {x} {x'} are = record {
    is_there = kept_goal n names.there names.back there' names.there_ends (with_clause_old n n' vars names.there) x x' are.is_there are.is_back;
    is_back = kept_goal n' names.back names.there back' names.back_ends (with_clause_old n' n vars names.back) x' x are.is_back are.is_there;
  }

  pub items_entered : {ks : List Kind} {is is' : List Item} → ItemsAgree names.there names.back ks is is' → ItemsAgree there' back' ks is is'
  items_entered rel.none = rel.none
  items_entered (does js g place rest) = does js (goals_entered g) place (items_entered rest)
  items_entered (cuts js place rest) = cuts js place (items_entered rest)
  items_entered (exits args m rest) = exits (terms_entered args) m (items_entered rest)
  items_entered (idle rest) = idle (items_entered rest)

  -- what a clause brings
  pub clause_terms : {ts : List Term} → map (instance (below vars)) ts ≡ ts → TermsAgree there' back' (map (rename n) ts) (map (rename n') ts)
  clause_terms {ts} e = terms_put (below vars) (below vars) there' back' (higher n) (higher n') (with_clause_new n n' vars names.there) (with_clause_new n' n vars names.back) (record { is_there = e; is_back = e })

  pub clause_goal : {x : Goal} → goal_instance (below vars) x ≡ x → GoalsAgree there' back' (goal_instance (higher n) x) (goal_instance (higher n') x)
  clause_goal {x} e = goals_put (below vars) (below vars) there' back' (higher n) (higher n') (with_clause_new n n' vars names.there) (with_clause_new n' n vars names.back) (record { is_there = e; is_back = e })

-- pairs of terms
pub pairs_variants : {there back : ℕ → Term} {ts ts' us us' : List Term} → TermsAgree there back ts ts' → TermsAgree there back us us' → AreVariants there back (pairs ts us) (pairs ts' us')
pairs_variants {there} {back} {ts} {ts'} {us} {us'} a b = record {
  is_there = instance_pairs there ts us ∙ (λ i. pairs (a.is_there i) (b.is_there i));
  is_back = instance_pairs back ts' us' ∙ (λ i. pairs (a.is_back i) (b.is_back i));
}
