-- Tests of terms each of which is an instance of the other.
use Rattle.std.proofs.Common.{◌≡◌, ℕ, Bool, ◌==◌, ◌⊎◌, inl, inr, List, [], ◌∷◌, map, refl, ap, sym, ◌∙◌}
use Rattle.std.specs.Prelude.{◌&&◌}
use Rattle.std.specs.List.{AllByRecursion}
use Rattle.std.proofs.lemmas.Bool.{eq-eqb, ne_eqb, cases_eq}
use Rattle.term_core.specs.declared.terms.Term.{Term, Var, out-Term}
use Rattle.term_core.specs.declared.terms.Term.TheOpen as layer
use Rattle.term_core.specs.declared.terms.Term.TheVariants.{outs-Var, outs-Int, outs-Atom, outs-Node}
use Rattle.term_core.specs.Terms.{instance, instance_step, is_ground, is_ground_step, is_variable, pairwise, is_var_of, is_int_of, is_atom_of, is_node_of, same, same_step}
use Rattle.term_core.specs.VariantTests.{VariantsShapedAlike, VariantsTestedAlike, VariantsSameAlike}
use Rattle.term_core.proofs.TermFolds.{fold-Var, fold-Int, fold-Atom, fold-Node, ind_terms}
use Rattle.term_core.proofs.TermLaws.{instance-Var, instance-Node}
use Rattle.term_core.proofs.NameLaws.{Returns, returns_var, returns_parts, blind}
use Rattle.term_core.proofs.VariantLaws.{var_inside}
use Rattle.term_core.proofs.KindLaws.{Alike, both_var, both_int, both_atom, both_node, alike}

cons_inside : {X : Type 0} (x y : X) (xs ys : List X) → x ∷ xs ≡ y ∷ ys → (x ≡ y) × (xs ≡ ys)
cons_inside x y xs ys e = (cc, cc)

module _ (there back : ℕ → Term) where
  abbrev R : Term → Type 0
  R = Returns there back

  pub all_return : (ts : List Term) → map (instance back) (map (instance there) ts) ≡ ts → AllByRecursion R ts
  all_return [] e = tt
  all_return (t ∷ ts) e = let h = cons_inside _ t _ ts e in (h.0, all_return ts h.1)

  -- tests of the outermost layer

  outer : (A : Type 0) (test : layer.Term-F Term → A) → ((v w : ℕ) → test (layer.Var v) ≡ test (layer.Var w)) → ((f : ℕ) (ts us : List Term) → test (layer.Node f ts) ≡ test (layer.Node f us)) →
      (t t' : Term) → Alike there back t t' → test (out-Term t') ≡ test (out-Term t)
  outer A test vars nodes t t' (both_var v v' e b) = ap test (outs-Var v') ∙ vars v' v ∙ ap test (sym (outs-Var v))
  outer A test vars nodes t t' (both_int n) = refl
  outer A test vars nodes t t' (both_atom a) = refl
  outer A test vars nodes t t' (both_node f ts ts' e b) = ap test (outs-Node f ts') ∙ nodes f ts' ts ∙ ap test (sym (outs-Node f ts))

  pub outer_same : (A : Type 0) (test : layer.Term-F Term → A) → ((v w : ℕ) → test (layer.Var v) ≡ test (layer.Var w)) → ((f : ℕ) (ts us : List Term) → test (layer.Node f ts) ≡ test (layer.Node f us)) →
      (t : Term) → R t → test (out-Term (instance there t)) ≡ test (out-Term t)
  outer_same A test vars nodes t r = outer A test vars nodes t (instance there t) (alike there back t (instance there t) refl r)

  pub variable_same : (t : Term) → R t → is_variable (out-Term (instance there t)) ≡ is_variable (out-Term t)
  variable_same t r = outer_same Bool is_variable (λ v w. refl) (λ f ts us. refl) t r

  pub ground_same : (t : Term) → R t → is_ground (instance there t) ≡ is_ground t
  ground_same t r = blind there back Bool is_ground_step (λ v w. refl) t r

  -- whether two terms are the same

  var_same : (v v' : ℕ) → there v ≡ Var v' → back v' ≡ Var v → (t t' : Term) → Alike there back t t' → is_var_of v' (out-Term t') ≡ is_var_of v (out-Term t)
  var_same v v' e b t t' (both_var w w' f g) = ap (is_var_of v') (outs-Var w') ∙ by_place (cases_eq v w) ∙ ap (is_var_of v) (sym (outs-Var w)) where
    by_place : (v ≡ w) ⊎ (v ≡ w → ⊥) → (v' == w') ≡ (v == w)
    by_place (inl same) = eq-eqb v' w' (var_inside v' w' (sym e ∙ ap there same ∙ f)) ∙ sym (eq-eqb v w same)
    by_place (inr ne) = ne_eqb v' w' (λ same. ne (var_inside v w (sym b ∙ ap back same ∙ g))) ∙ sym (ne_eqb v w ne)
  var_same v v' e b t t' (both_int n) = ap (is_var_of v') (outs-Int n) ∙ ap (is_var_of v) (sym (outs-Int n))
  var_same v v' e b t t' (both_atom a) = ap (is_var_of v') (outs-Atom a) ∙ ap (is_var_of v) (sym (outs-Atom a))
  var_same v v' e b t t' (both_node f ts ts' h k) = ap (is_var_of v') (outs-Node f ts') ∙ ap (is_var_of v) (sym (outs-Node f ts))

  abbrev Sames : Term → Type 0
  Sames t = R t → (u : Term) → R u → same (instance there t) (instance there u) ≡ same t u

  pairs_same : (ts : List Term) → AllByRecursion Sames ts → AllByRecursion R ts → (us us' : List Term) → map (instance there) us ≡ us' → map (instance back) us' ≡ us →
      pairwise (map same (map (instance there) ts)) us' ≡ pairwise (map same ts) us
  pairs_same [] h r [] us' e b = ap (pairwise []) (sym e)
  pairs_same [] h r (u ∷ us) us' e b = ap (pairwise []) (sym e)
  pairs_same (t ∷ ts) h r [] us' e b = ap (pairwise (map same (map (instance there) (t ∷ ts)))) (sym e)
  pairs_same (t ∷ ts) h r (u ∷ us) us' e b =
      let back_u = cons_inside _ u _ us (ap (map (instance back)) e ∙ b) in
      ap (pairwise (map same (map (instance there) (t ∷ ts)))) (sym e) ∙ (λ i. h.0 r.0 u back_u.0 i && pairs_same ts h.1 r.1 us (map (instance there) us) refl back_u.1 i)

  node_same : (f : ℕ) (ts : List Term) → AllByRecursion Sames ts → AllByRecursion R ts → (t t' : Term) → Alike there back t t' →
      is_node_of f (map same (map (instance there) ts)) (out-Term t') ≡ is_node_of f (map same ts) (out-Term t)
  node_same f ts h r t t' (both_var w w' e g) = ap (is_node_of f _) (outs-Var w') ∙ ap (is_node_of f _) (sym (outs-Var w))
  node_same f ts h r t t' (both_int n) = ap (is_node_of f _) (outs-Int n) ∙ ap (is_node_of f _) (sym (outs-Int n))
  node_same f ts h r t t' (both_atom a) = ap (is_node_of f _) (outs-Atom a) ∙ ap (is_node_of f _) (sym (outs-Atom a))
  node_same f ts h r t t' (both_node g us us' e b) =
      ap (is_node_of f (map same (map (instance there) ts))) (outs-Node g us') ∙ ap (λ x. (f == g) && x) (pairs_same ts h r us us' e b) ∙ ap (is_node_of f (map same ts)) (sym (outs-Node g us))

  pub same_same : (t u : Term) → R t → R u → same (instance there t) (instance there u) ≡ same t u
  same_same t u r s = ind_terms Sames
      (λ v r u s.
      let n = returns_var there back v r in
      ap (λ x. same x (instance there u)) (instance-Var there v ∙ n.is_there) ∙ ap (λ f. f (instance there u)) (fold-Var (Term → Bool) same_step n.name)
      ∙ var_same v n.name n.is_there n.is_back u (instance there u) (alike there back u (instance there u) refl s) ∙ sym (ap (λ f. f u) (fold-Var (Term → Bool) same_step v)))
      (λ n r u s. ap (λ x. same x (instance there u)) (fold-Int Term (instance_step there) n) ∙ ap (λ f. f (instance there u)) (fold-Int (Term → Bool) same_step n)
      ∙ outer_same Bool (is_int_of n) (λ v w. refl) (λ f ts us. refl) u s ∙ sym (ap (λ f. f u) (fold-Int (Term → Bool) same_step n)))
      (λ a r u s. ap (λ x. same x (instance there u)) (fold-Atom Term (instance_step there) a) ∙ ap (λ f. f (instance there u)) (fold-Atom (Term → Bool) same_step a)
      ∙ outer_same Bool (is_atom_of a) (λ v w. refl) (λ f ts us. refl) u s ∙ sym (ap (λ f. f u) (fold-Atom (Term → Bool) same_step a)))
      (λ f ts h r u s. ap (λ x. same x (instance there u)) (instance-Node there f ts) ∙ ap (λ x. x (instance there u)) (fold-Node (Term → Bool) same_step f (map (instance there) ts))
      ∙ node_same f ts h (returns_parts there back f ts r) u (instance there u) (alike there back u (instance there u) refl s) ∙ sym (ap (λ x. x u) (fold-Node (Term → Bool) same_step f ts)))
      t r u s

pub shaped_alike : VariantsShapedAlike
shaped_alike there back = blind there back Term (instance_step (λ v. Var 0)) (λ v w. refl)

pub tested_alike : VariantsTestedAlike
tested_alike test same there back = blind there back Bool test same

pub same_alike : VariantsSameAlike
same_alike = same_same
