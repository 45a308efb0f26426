-- Equations that differ in the names of variables end alike.
use Rattle.std.proofs.Common.{◌≡◌, ℕ, zero, suc, Bool, true, false, ◌==◌, ◌⊎◌, inl, inr, List, [], ◌∷◌, ◌++◌, map, length, refl, sym, ap, ◌∙◌, subst, true≢false}
use Rattle.std.specs.Prelude.{if◌then◌else◌, ◌&&◌}
use Rattle.std.specs.Ordering.{int_eq}
use Rattle.std.proofs.lemmas.Bool.{eq-eqb, ne_eqb, cases_eq, cases_Bool}
use Rattle.std.proofs.lemmas.List.{length-map}
use Rattle.term_core.specs.declared.terms.Term.{Term, Var, Int, Atom, Node, out-Term}
use Rattle.term_core.specs.declared.terms.Term.TheOpen as layer
use Rattle.term_core.specs.declared.terms.Term.TheVariants.{outs-Var, outs-Int, outs-Atom, outs-Node}
use Rattle.term_core.specs.declared.equations.Equation.{Equation}
use Rattle.term_core.specs.declared.equations.Binding.{Binding}
use Rattle.term_core.specs.declared.equations.Outcome.{Outcome}
use Rattle.term_core.specs.declared.equations.Outcome.TheVariants.{Solved, Clash, Cyclic}
use Rattle.term_core.specs.Terms.{instance, instance_step, only, occurs, occurs_step}
use Rattle.term_core.specs.Unify.{pairs, replace_all, Move, Becomes, Binds, Clashes, Cycles, move, move_at, meets_compound, Stage, Open, Ended, after, solve, solves, Unified}
use Rattle.term_core.proofs.TermFolds.{fold-Int, fold-Atom}
use Rattle.term_core.proofs.TermLaws.{instance-Var, instance-Node, instance-instance, replace-absent}
use Rattle.term_core.proofs.Occurrences.{occurs-Var}
use Rattle.term_core.specs.Variants.{all_instances, AreVariants, SameKind, EndsAs}
use Rattle.term_core.proofs.VariantLaws.{View, is_var, is_int, is_atom, is_node, view, var_inside, node_inside, occurs_instance, all_instances-append, instance_pairs, all_instances_twice, only_same, replaced_same}

-- an equation of these
abbrev pub equation : Term → Term → Equation
equation l r = record { left = l; right = r }

module _ (there back : ℕ → Term) where
  -- two terms each of which is an instance of the other
  pub data Alike : Term → Term → Type 0 where
    both_var : (v v' : ℕ) → there v ≡ Var v' → back v' ≡ Var v → Alike (Var v) (Var v')
    both_int : (n : _) → Alike (Int n) (Int n)
    both_atom : (a : ℕ) → Alike (Atom a) (Atom a)
    both_node : (f : ℕ) (ts ts' : List Term) → map (instance there) ts ≡ ts' → map (instance back) ts' ≡ ts → Alike (Node f ts) (Node f ts')

  var_alike : (v : ℕ) (t' : Term) → there v ≡ t' → instance back t' ≡ Var v → View t' → Alike (Var v) t'
  var_alike v t' e b (is_var w) = both_var v w e (sym (instance-Var back w) ∙ b)
  var_alike v t' e b (is_int n) = absurd (apart (sym (fold-Int Term (instance_step back) n) ∙ b)) where
    apart : Int n ≡ Var v → ⊥
    apart e = cc
  var_alike v t' e b (is_atom a) = absurd (apart (sym (fold-Atom Term (instance_step back) a) ∙ b)) where
    apart : Atom a ≡ Var v → ⊥
    apart e = cc
  var_alike v t' e b (is_node f ts) = absurd (apart (sym (outs-Node f (map (instance back) ts)) ∙ ap out-Term (sym (instance-Node back f ts) ∙ b) ∙ outs-Var v)) where
    apart : layer.Node f (map (instance back) ts) ≡ layer.Var v → ⊥
    apart e = cc

  alike_at : (t t' : Term) → instance there t ≡ t' → instance back t' ≡ t → View t → Alike t t'
  alike_at t t' e b (is_var v) = var_alike v t' (sym (instance-Var there v) ∙ e) b (view t')
  alike_at t t' e b (is_int n) = subst (Alike (Int n)) (sym (fold-Int Term (instance_step there) n) ∙ e) (both_int n)
  alike_at t t' e b (is_atom a) = subst (Alike (Atom a)) (sym (fold-Atom Term (instance_step there) a) ∙ e) (both_atom a)
  alike_at t t' e b (is_node f ts) =
      let ts' : List Term = map (instance there) ts in
      let is_t : Node f ts' ≡ t' = sym (instance-Node there f ts) ∙ e in
      subst (Alike (Node f ts)) is_t (both_node f ts ts' refl (node_inside f f _ ts (sym (instance-Node back f ts') ∙ ap (instance back) is_t ∙ b)).1)

  pub alike : (t t' : Term) → instance there t ≡ t' → instance back t' ≡ t → Alike t t'
  alike t t' e b = alike_at t t' e b (view t)

  -- what becomes of two equations each of which is an instance of the other
  pub data Matches : Move → Move → Type 0 where
    both_become : (es es' : List Equation) → all_instances there es ≡ es' → all_instances back es' ≡ es → Matches (Becomes es) (Becomes es')
    both_bind : (v v' : ℕ) (t t' : Term) → there v ≡ Var v' → back v' ≡ Var v → instance there t ≡ t' → instance back t' ≡ t → occurs v t ≡ false → occurs v' t' ≡ false → Matches (Binds v t) (Binds v' t')
    both_clash : Matches Clashes Clashes
    both_cycle : Matches Cycles Cycles

  moved : (m m' n n' : Move) → m ≡ n → m' ≡ n' → Matches n n' → Matches m m'
  moved m m' n n' e e' h = subst (λ x. Matches x m') (sym e) (subst (Matches n) (sym e') h)

  or_clash : (b : Bool) → Matches (if b then Becomes [] else Clashes) (if b then Becomes [] else Clashes)
  or_clash true = both_become [] [] refl refl
  or_clash false = both_clash

  same_occurs : (v v' : ℕ) (t t' : Term) → there v ≡ Var v' → back v' ≡ Var v → instance there t ≡ t' → instance back t' ≡ t → occurs v' t' ≡ occurs v t
  same_occurs v v' t t' e b f g = by_value (cases_Bool (occurs v t)) (cases_Bool (occurs v' t')) where
    itself : (w : ℕ) → occurs w (Var w) ≡ true
    itself w = occurs-Var w w ∙ eq-eqb w w refl

    by_value : (occurs v t ≡ true) ⊎ (occurs v t ≡ false) → (occurs v' t' ≡ true) ⊎ (occurs v' t' ≡ false) → occurs v' t' ≡ occurs v t
    by_value (inl x) (inl y) = y ∙ sym x
    by_value (inr x) (inr y) = y ∙ sym x
    by_value (inl x) (inr y) = absurd (true≢false (sym (ap (occurs v') (sym f) ∙ occurs_instance there v v' t (ap (occurs v') e ∙ itself v') x) ∙ y))
    by_value (inr x) (inl y) = absurd (true≢false (sym (ap (occurs v) (sym g) ∙ occurs_instance back v' v t' (ap (occurs v) b ∙ itself v) y) ∙ x))

  -- a variable and a compound
  met : (v v' : ℕ) (t t' : Term) → there v ≡ Var v' → back v' ≡ Var v → instance there t ≡ t' → instance back t' ≡ t → Matches (meets_compound v t) (meets_compound v' t')
  met v v' t t' e b f g = by_value (occurs v t) (occurs v' t') refl (same_occurs v v' t t' e b f g) where
    by_value : (x y : Bool) → occurs v t ≡ x → y ≡ x → Matches (if x then Cycles else Binds v t) (if y then Cycles else Binds v' t')
    by_value true true h same = both_cycle
    by_value true false h same = absurd (true≢false (sym same))
    by_value false true h same = absurd (true≢false same)
    by_value false false h same = both_bind v v' t t' e b f g h (same_occurs v v' t t' e b f g ∙ h)

  there_of : (t t' : Term) → Alike t t' → instance there t ≡ t'
  there_of t t' (both_var v v' e b) = instance-Var there v ∙ e
  there_of t t' (both_int n) = fold-Int Term (instance_step there) n
  there_of t t' (both_atom a) = fold-Atom Term (instance_step there) a
  there_of t t' (both_node f ts ts' e b) = instance-Node there f ts ∙ ap (Node f) e

  back_of : (t t' : Term) → Alike t t' → instance back t' ≡ t
  back_of t t' (both_var v v' e b) = instance-Var back v' ∙ b
  back_of t t' (both_int n) = fold-Int Term (instance_step back) n
  back_of t t' (both_atom a) = fold-Atom Term (instance_step back) a
  back_of t t' (both_node f ts ts' e b) = instance-Node back f ts' ∙ ap (Node f) b

  -- a variable and a term in which it does not stand
  bound : (v v' : ℕ) (t t' : Term) → there v ≡ Var v' → back v' ≡ Var v → Alike t t' → occurs v t ≡ false → Matches (Binds v t) (Binds v' t')
  bound v v' t t' e b a absent = both_bind v v' t t' e b (there_of t t' a) (back_of t t' a) absent (same_occurs v v' t t' e b (there_of t t' a) (back_of t t' a) ∙ absent)

  vars_met : (v v' w w' : ℕ) → there v ≡ Var v' → back v' ≡ Var v → there w ≡ Var w' → back w' ≡ Var w →
      Matches (if v == w then Becomes [] else Binds v (Var w)) (if v' == w' then Becomes [] else Binds v' (Var w'))
  vars_met v v' w w' e b f g = by_place (cases_eq v w) where
    by_place : (v ≡ w) ⊎ (v ≡ w → ⊥) → Matches (if v == w then Becomes [] else Binds v (Var w)) (if v' == w' then Becomes [] else Binds v' (Var w'))
    by_place (inl same) =
        moved _ _ (Becomes []) (Becomes []) (ap (λ x. if x then Becomes [] else Binds v (Var w)) (eq-eqb v w same))
        (ap (λ x. if x then Becomes [] else Binds v' (Var w')) (eq-eqb v' w' (var_inside v' w' (sym e ∙ ap there same ∙ f)))) (both_become [] [] refl refl)
    by_place (inr ne) =
        moved _ _ (Binds v (Var w)) (Binds v' (Var w')) (ap (λ x. if x then Becomes [] else Binds v (Var w)) (ne_eqb v w ne))
        (ap (λ x. if x then Becomes [] else Binds v' (Var w')) (ne_eqb v' w' (λ same. ne (var_inside v w (sym b ∙ ap back same ∙ g)))))
        (bound v v' (Var w) (Var w') e b (both_var w w' f g) (occurs-Var v w ∙ ne_eqb v w ne))

  no_int : (v : ℕ) (n : _) → occurs v (Int n) ≡ false
  no_int v n = fold-Int Bool (occurs_step v) n

  no_atom : (v a : ℕ) → occurs v (Atom a) ≡ false
  no_atom v a = fold-Atom Bool (occurs_step v) a

  nodes_met : (f g : ℕ) (ts ts' us us' : List Term) → map (instance there) ts ≡ ts' → map (instance back) ts' ≡ ts → map (instance there) us ≡ us' → map (instance back) us' ≡ us →
      Matches (if (f == g) && (length ts == length us) then Becomes (pairs ts us) else Clashes) (if (f == g) && (length ts' == length us') then Becomes (pairs ts' us') else Clashes)
  nodes_met f g ts ts' us us' e b h k =
      subst (λ x. Matches (if (f == g) && (length ts == length us) then Becomes (pairs ts us) else Clashes) (if x then Becomes (pairs ts' us') else Clashes))
      (λ i. (f == g) && (sizes ts ts' e i == sizes us us' h i))
      (either ((f == g) && (length ts == length us)))
    where
      sizes : (xs xs' : List Term) → map (instance there) xs ≡ xs' → length xs ≡ length xs'
      sizes xs xs' e = sym (length-map xs (instance there)) ∙ ap length e

      either : (x : Bool) → Matches (if x then Becomes (pairs ts us) else Clashes) (if x then Becomes (pairs ts' us') else Clashes)
      either true = both_become _ _ (instance_pairs there ts us ∙ (λ i. pairs (e i) (h i))) (instance_pairs back ts' us' ∙ (λ i. pairs (b i) (k i)))
      either false = both_clash

  pub matches : (l l' r r' : Term) → Alike l l' → Alike r r' → Matches (move (equation l r)) (move (equation l' r'))
  matches l l' r r' (both_var v v' e b) (both_var w w' f g) =
      moved _ _ _ _ (λ i. move_at (Var v) (Var w) (outs-Var v i) (outs-Var w i)) (λ i. move_at (Var v') (Var w') (outs-Var v' i) (outs-Var w' i)) (vars_met v v' w w' e b f g)
  matches l l' r r' (both_var v v' e b) (both_int n) =
      moved _ _ _ _ (λ i. move_at (Var v) (Int n) (outs-Var v i) (outs-Int n i)) (λ i. move_at (Var v') (Int n) (outs-Var v' i) (outs-Int n i)) (bound v v' (Int n) (Int n) e b (both_int n) (no_int v n))
  matches l l' r r' (both_var v v' e b) (both_atom a) =
      moved _ _ _ _ (λ i. move_at (Var v) (Atom a) (outs-Var v i) (outs-Atom a i)) (λ i. move_at (Var v') (Atom a) (outs-Var v' i) (outs-Atom a i)) (bound v v' (Atom a) (Atom a) e b (both_atom a) (no_atom v a))
  matches l l' r r' (both_var v v' e b) (both_node g us us' h k) =
      moved _ _ _ _ (λ i. move_at (Var v) (Node g us) (outs-Var v i) (outs-Node g us i)) (λ i. move_at (Var v') (Node g us') (outs-Var v' i) (outs-Node g us' i))
      (met v v' (Node g us) (Node g us') e b (there_of _ _ (both_node g us us' h k)) (back_of _ _ (both_node g us us' h k)))
  matches l l' r r' (both_int m) (both_var w w' f g) =
      moved _ _ _ _ (λ i. move_at (Int m) (Var w) (outs-Int m i) (outs-Var w i)) (λ i. move_at (Int m) (Var w') (outs-Int m i) (outs-Var w' i)) (bound w w' (Int m) (Int m) f g (both_int m) (no_int w m))
  matches l l' r r' (both_int m) (both_int n) =
      moved _ _ _ _ (λ i. move_at (Int m) (Int n) (outs-Int m i) (outs-Int n i)) (λ i. move_at (Int m) (Int n) (outs-Int m i) (outs-Int n i)) (or_clash (int_eq m n))
  matches l l' r r' (both_int m) (both_atom a) =
      moved _ _ _ _ (λ i. move_at (Int m) (Atom a) (outs-Int m i) (outs-Atom a i)) (λ i. move_at (Int m) (Atom a) (outs-Int m i) (outs-Atom a i)) both_clash
  matches l l' r r' (both_int m) (both_node g us us' h k) =
      moved _ _ _ _ (λ i. move_at (Int m) (Node g us) (outs-Int m i) (outs-Node g us i)) (λ i. move_at (Int m) (Node g us') (outs-Int m i) (outs-Node g us' i)) both_clash
  matches l l' r r' (both_atom c) (both_var w w' f g) =
      moved _ _ _ _ (λ i. move_at (Atom c) (Var w) (outs-Atom c i) (outs-Var w i)) (λ i. move_at (Atom c) (Var w') (outs-Atom c i) (outs-Var w' i)) (bound w w' (Atom c) (Atom c) f g (both_atom c) (no_atom w c))
  matches l l' r r' (both_atom c) (both_int n) =
      moved _ _ _ _ (λ i. move_at (Atom c) (Int n) (outs-Atom c i) (outs-Int n i)) (λ i. move_at (Atom c) (Int n) (outs-Atom c i) (outs-Int n i)) both_clash
  matches l l' r r' (both_atom c) (both_atom a) =
      moved _ _ _ _ (λ i. move_at (Atom c) (Atom a) (outs-Atom c i) (outs-Atom a i)) (λ i. move_at (Atom c) (Atom a) (outs-Atom c i) (outs-Atom a i)) (or_clash (c == a))
  matches l l' r r' (both_atom c) (both_node g us us' h k) =
      moved _ _ _ _ (λ i. move_at (Atom c) (Node g us) (outs-Atom c i) (outs-Node g us i)) (λ i. move_at (Atom c) (Node g us') (outs-Atom c i) (outs-Node g us' i)) both_clash
  matches l l' r r' (both_node f ts ts' e b) (both_var w w' h k) =
      moved _ _ _ _ (λ i. move_at (Node f ts) (Var w) (outs-Node f ts i) (outs-Var w i)) (λ i. move_at (Node f ts') (Var w') (outs-Node f ts' i) (outs-Var w' i))
      (met w w' (Node f ts) (Node f ts') h k (there_of _ _ (both_node f ts ts' e b)) (back_of _ _ (both_node f ts ts' e b)))
  matches l l' r r' (both_node f ts ts' e b) (both_int n) =
      moved _ _ _ _ (λ i. move_at (Node f ts) (Int n) (outs-Node f ts i) (outs-Int n i)) (λ i. move_at (Node f ts') (Int n) (outs-Node f ts' i) (outs-Int n i)) both_clash
  matches l l' r r' (both_node f ts ts' e b) (both_atom a) =
      moved _ _ _ _ (λ i. move_at (Node f ts) (Atom a) (outs-Node f ts i) (outs-Atom a i)) (λ i. move_at (Node f ts') (Atom a) (outs-Node f ts' i) (outs-Atom a i)) both_clash
  matches l l' r r' (both_node f ts ts' e b) (both_node g us us' h k) =
      moved _ _ _ _ (λ i. move_at (Node f ts) (Node g us) (outs-Node f ts i) (outs-Node g us i)) (λ i. move_at (Node f ts') (Node g us') (outs-Node f ts' i) (outs-Node g us' i))
      (nodes_met f g ts ts' us us' e b h k)

-- the binding of a variable, on both sides
pub bound_there : (there : ℕ → Term) (v v' : ℕ) (t t' : Term) → there v ≡ Var v' → instance there t ≡ t' → occurs v' t' ≡ false → (es : List Equation) →
    all_instances (λ x. instance (only v' t') (there x)) (replace_all v t es) ≡ replace_all v' t' (all_instances there es)
bound_there there v v' t t' e f absent es =
    let both : ℕ → Term = λ x. instance (only v' t') (there x) in
    let of_v : both v ≡ t' = ap (instance (only v' t')) e ∙ instance-Var (only v' t') v' ∙ only_same v' t' in
    let of_t : instance both t ≡ t' = sym (instance-instance (only v' t') there t) ∙ ap (instance (only v' t')) f ∙ replace-absent v' t' t' absent in
    all_instances_twice both (only v t) both (replaced_same both v t (of_t ∙ sym of_v)) es
    ∙ sym (all_instances_twice (only v' t') there both (λ x. refl) es)

-- the end of a stage
abbrev pub EndsSo : Stage → Outcome → Type 0
EndsSo s o = (k : ℕ) × (solves k s ≡ Ended o)

pub ended_stays : (k : ℕ) (o : Outcome) → solves k (Ended o) ≡ Ended o
ended_stays zero o = refl
ended_stays (suc k) o = ended_stays k o

pub ended_inside : (o o' : Outcome) → Ended o ≡ Ended o' → o ≡ o'
ended_inside o o' e = cc

pub open_ended : (es : List Equation) (bs : List Binding) (o : Outcome) → Open es bs ≡ Ended o → ⊥
open_ended es bs o e = cc

-- where one stage ends so, the other ends alike
abbrev EndsAlike : Stage → Outcome → Type 0
EndsAlike s o = (o' : Outcome) × EndsSo s o' × SameKind o o'

abbrev Follows : ℕ → Type 0
Follows k = (there back : ℕ → Term) (es es' : List Equation) → AreVariants there back es es' → (bs bs' : List Binding) (o : Outcome) → solves k (Open es bs) ≡ Ended o → EndsAlike (Open es' bs') o

follow : (k : ℕ) → Follows k → (there back : ℕ → Term) (m m' : Move) → Matches there back m m' → (rest rest' : List Equation) → AreVariants there back rest rest' →
    (bs bs' : List Binding) (o : Outcome) → solves k (after m rest bs) ≡ Ended o → EndsAlike (after m' rest' bs') o
follow k next there back m m' (both_become es es' e b) rest rest' are bs bs' o ends =
    next there back (es ++ rest) (es' ++ rest')
    (record {
      is_there = all_instances-append there es rest ∙ (λ i. e i ++ are.is_there i);
      is_back = all_instances-append back es' rest' ∙ (λ i. b i ++ are.is_back i);
    }) bs bs' o ends
follow k next there back m m' (both_bind v v' t t' e b f g absent absent') rest rest' are bs bs' o ends =
    next (λ x. instance (only v' t') (there x)) (λ x. instance (only v t) (back x)) (replace_all v t rest) (replace_all v' t' rest')
    (record {
      is_there = bound_there there v v' t t' e f absent' rest ∙ ap (replace_all v' t') are.is_there;
      is_back = bound_there back v' v t' t b g absent rest' ∙ ap (replace_all v t) are.is_back;
    }) (bs ++ record { variable = v; value = t } ∷ []) (bs' ++ record { variable = v'; value = t' } ∷ []) o ends
follow k next there back m m' both_clash rest rest' are bs bs' o ends =
    (Clash, (zero, refl), subst (λ x. SameKind x Clash) (ended_inside Clash o (sym (ended_stays k Clash) ∙ ends)) tt)
follow k next there back m m' both_cycle rest rest' are bs bs' o ends =
    (Cyclic, (zero, refl), subst (λ x. SameKind x Cyclic) (ended_inside Cyclic o (sym (ended_stays k Cyclic) ∙ ends)) tt)

cons_inside : (x y : Equation) (xs ys : List Equation) → x ∷ xs ≡ y ∷ ys → (x ≡ y) × (xs ≡ ys)
cons_inside x y xs ys e = (cc, cc)

pub kinds : (k : ℕ) → Follows k
kinds zero there back es es' are bs bs' o ends = absurd (open_ended es bs o ends)
kinds (suc k) there back [] es' are bs bs' o ends =
    subst (λ xs. EndsAlike (Open xs bs') o) are.is_there
    (Solved bs', (suc zero, refl), subst (λ x. SameKind x (Solved bs')) (ended_inside (Solved bs) o (sym (ended_stays k (Solved bs)) ∙ ends)) tt)
kinds (suc k) there back (e ∷ rest) es' are bs bs' o ends =
    let e' : Equation = equation (instance there e.left) (instance there e.right) in
    let rest' : List Equation = all_instances there rest in
    let inside = cons_inside (equation (instance back e'.left) (instance back e'.right)) e (all_instances back rest') rest (ap (all_instances back) are.is_there ∙ are.is_back) in
    let l : Alike there back e.left e'.left = alike there back e.left e'.left refl (ap (λ x. x.left) inside.0) in
    let r : Alike there back e.right e'.right = alike there back e.right e'.right refl (ap (λ x. x.right) inside.0) in
    let found = follow k (kinds k) there back (move e) (move e') (matches there back e.left e'.left e.right e'.right l r) rest rest' (record { is_there = refl; is_back = inside.1 }) bs bs' o ends in
    subst (λ xs. EndsAlike (Open xs bs') o) are.is_there (found.0, (suc found.1.0, found.1.1), found.2)

-- a stage ends in one outcome only
one_end : (j k : ℕ) (s : Stage) (o o' : Outcome) → solves j s ≡ Ended o → solves k s ≡ Ended o' → o ≡ o'
one_end zero k s o o' e e' = ended_inside o o' (sym (ended_stays k o) ∙ ap (solves k) (sym e) ∙ e')
one_end (suc j) zero s o o' e e' = ended_inside o o' (sym e ∙ ap (solves (suc j)) e' ∙ ended_stays (suc j) o')
one_end (suc j) (suc k) s o o' e e' = one_end j k (solve s) o o' e e'

-- equations that are variants end alike
pub same_kind : (there back : ℕ → Term) (es es' : List Equation) (o o' : Outcome) → AreVariants there back es es' → Unified es o → Unified es' o' → SameKind o o'
same_kind there back es es' o o' are u u' =
    let found = kinds u.0 there back es es' are [] [] o u.1 in
    subst (SameKind o) (one_end found.1.0 u'.0 (Open es' []) found.0 o' found.1.1 u'.1) found.2

-- kinds of outcomes: an equivalence

pub same_itself : (o : Outcome) → SameKind o o
same_itself (Solved bs) = tt
same_itself Clash = tt
same_itself Cyclic = tt

same_turned : (o p : Outcome) → SameKind o p → SameKind p o
same_turned (Solved bs) (Solved cs) h = tt
same_turned Clash Clash h = tt
same_turned Cyclic Cyclic h = tt
same_turned (Solved bs) Clash h = absurd h
same_turned (Solved bs) Cyclic h = absurd h
same_turned Clash (Solved bs) h = absurd h
same_turned Clash Cyclic h = absurd h
same_turned Cyclic (Solved bs) h = absurd h
same_turned Cyclic Clash h = absurd h

same_then : (o p q : Outcome) → SameKind o p → SameKind p q → SameKind o q
same_then (Solved bs) (Solved cs) q h k = k_of q k where
  k_of : (q : Outcome) → SameKind (Solved cs) q → SameKind (Solved bs) q
  k_of (Solved ds) k = tt
  k_of Clash k = absurd k
  k_of Cyclic k = absurd k
same_then Clash Clash q h k = k
same_then Cyclic Cyclic q h k = k
same_then (Solved bs) Clash q h k = absurd h
same_then (Solved bs) Cyclic q h k = absurd h
same_then Clash (Solved bs) q h k = absurd h
same_then Clash Cyclic q h k = absurd h
same_then Cyclic (Solved bs) q h k = absurd h
same_then Cyclic Clash q h k = absurd h

-- the bindings that were made do not matter, and no more do the names of variables
pub variants_end : (there back : ℕ → Term) (es es' : List Equation) → AreVariants there back es es' → (bs : List Binding) (o : Outcome) → EndsAs es o → (o' : Outcome) × EndsSo (Open es' bs) o' × SameKind o' o
variants_end there back es es' are bs o ends =
    let found = kinds ends.1.0 there back es es' are [] bs ends.0 ends.1.1 in
    (found.0, found.1, same_then found.0 ends.0 o (same_turned ends.0 found.0 found.2) ends.2)
