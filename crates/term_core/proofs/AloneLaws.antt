-- Variables that stand in none of some equations.
use Rattle.std.proofs.Common.{◌≡◌, ℕ, Bool, true, false, ◌||◌, ◌⊎◌, inl, inr, List, [], ◌∷◌, map, refl, sym, ap, ◌∙◌, true≢false}
use Rattle.std.specs.List.{list_any, AllByRecursion}
use Rattle.std.proofs.lemmas.Bool.{cases_eq, eqb-true}
use Rattle.term_core.specs.declared.terms.Term.{Term, Var, Int, Atom, Node, out-Term}
use Rattle.term_core.specs.declared.terms.Term.TheOpen as layer
use Rattle.term_core.specs.declared.terms.Term.TheVariants.{outs-Atom, outs-Node}
use Rattle.term_core.specs.declared.equations.Equation.{Equation}
use Rattle.term_core.specs.Terms.{instance, instance_step, only, occurs, occurs_step}
use Rattle.term_core.specs.Unify.{occurs_in}
use Rattle.term_core.specs.Solutions.{Solves, with_value}
use Rattle.term_core.specs.Variants.{IsMostGeneral}
use Rattle.term_core.proofs.TermFolds.{fold-Int, fold-Atom, ind_terms}
use Rattle.term_core.proofs.TermLaws.{instance-Var, instance-Node, instance_agrees, replace-absent, with_same, with_other}
use Rattle.term_core.proofs.Occurrences.{occurs-Node, occurs-Var}
use Rattle.term_core.proofs.VariantLaws.{View, is_var, is_int, is_atom, is_node, view, node_inside, only_same, replaced_same}

head_same : (x y : Term) (xs ys : List Term) → x ∷ xs ≡ y ∷ ys → x ≡ y
head_same x y xs ys e = cc

tail_same : (x y : Term) (xs ys : List Term) → x ∷ xs ≡ y ∷ ys → xs ≡ ys
tail_same x y xs ys e = cc

-- values that give one instance agree on the variables of the term
same_inside : (f g : ℕ → Term) (w : ℕ) (t : Term) → instance f t ≡ instance g t → occurs w t ≡ true → f w ≡ g w
same_inside f g w =
    ind_terms (λ t. instance f t ≡ instance g t → occurs w t ≡ true → f w ≡ g w)
    (λ v e o. let is : w ≡ v = eqb-true w v (sym (occurs-Var w v) ∙ o) in ap f is ∙ sym (instance-Var f v) ∙ e ∙ instance-Var g v ∙ sym (ap g is))
    (λ n e o. absurd (true≢false (sym o ∙ fold-Int Bool (occurs_step w) n)))
    (λ a e o. absurd (true≢false (sym o ∙ fold-Atom Bool (occurs_step w) a)))
    (λ k ts h e o. one_of ts h (node_inside k k (map (instance f) ts) (map (instance g) ts) (sym (instance-Node f k ts) ∙ e ∙ instance-Node g k ts)).1 (sym (occurs-Node w k ts) ∙ o))
  where
    one_of : (ts : List Term) → AllByRecursion (λ t. instance f t ≡ instance g t → occurs w t ≡ true → f w ≡ g w) ts → map (instance f) ts ≡ map (instance g) ts → list_any (λ b. b) (map (occurs w) ts) ≡ true → f w ≡ g w
    one_of [] h e o = absurd (true≢false (sym o))
    one_of (t ∷ ts) h e o = either (occurs w t) refl (one_of ts h.1 (tail_same _ _ _ _ e)) o where
      either : (b : Bool) → occurs w t ≡ b → (list_any (λ b. b) (map (occurs w) ts) ≡ true → f w ≡ g w) → (b || list_any (λ b. b) (map (occurs w) ts)) ≡ true → f w ≡ g w
      either true is rest o = h.0 (head_same _ _ _ _ e) is
      either false is rest o = rest o

or_none : (a b : Bool) → (a || b) ≡ false → (a ≡ false) × (b ≡ false)
or_none true b e = absurd (true≢false e)
or_none false b e = (refl, e)

-- a solution with any atom for a variable that stands in no equation
solves_with : (value : ℕ → Term) (w a : ℕ) (es : List Equation) → Solves value es → occurs_in w es ≡ false → Solves (with_value value w (Atom a)) es
solves_with value w a [] h never = tt
solves_with value w a (e ∷ es) h never =
    let parts = or_none (occurs w e.left || occurs w e.right) (occurs_in w es) never in
    let sides = or_none (occurs w e.left) (occurs w e.right) parts.0 in
    let same : (t : Term) → occurs w t ≡ false → instance (with_value value w (Atom a)) t ≡ instance value t =
    λ t absent. instance_agrees (with_value value w (Atom a)) value t (λ v o. with_other value w (Atom a) v (λ is. true≢false (sym o ∙ ap (λ x. occurs x t) is ∙ absent))) in
    (same e.left sides.0 ∙ h.0 ∙ sym (same e.right sides.1), solves_with value w a es h.1 parts.1)

atoms_differ : Atom 0 ≡ Atom 1 → ⊥
atoms_differ e = cc

int_is_no_atom : (n : _) (a : ℕ) → Int n ≡ Atom a → ⊥
int_is_no_atom n a e = cc

layer_is_no_atom : (f a : ℕ) (ts : List Term) → layer.Node f ts ≡ layer.Atom a → ⊥
layer_is_no_atom f a ts e = cc

pub stays_alone : (es : List Equation) (value : ℕ → Term) (w : ℕ) → IsMostGeneral es value → occurs_in w es ≡ false → (value w ≡ Var w) × ((v : ℕ) → (v ≡ w → ⊥) → occurs w (value v) ≡ false)
stays_alone es value w m never = (by_view (value w) refl (view (value w)), λ v ne. by_test v ne (occurs w (value v)) refl) where
  other : ℕ → ℕ → Term
  other a = with_value value w (Atom a)

  made : (a v : ℕ) → other a v ≡ instance (other a) (value v)
  made a v = m.general (other a) (solves_with value w a es m.solves never) v

  here : (a : ℕ) → other a w ≡ Atom a
  here a = with_same value w (Atom a)

  there : (v : ℕ) → (v ≡ w → ⊥) → other 0 v ≡ other 1 v
  there v ne = with_other value w (Atom 0) v ne ∙ sym (with_other value w (Atom 1) v ne)

  by_test : (v : ℕ) → (v ≡ w → ⊥) → (b : Bool) → occurs w (value v) ≡ b → occurs w (value v) ≡ false
  by_test v ne true is = absurd (atoms_differ (sym (here 0) ∙ same_inside (other 0) (other 1) w (value v) (sym (made 0 v) ∙ there v ne ∙ made 1 v) is ∙ here 1))
  by_test v ne false is = is

  is_atom_there : (a : ℕ) (t : Term) → value w ≡ t → instance (other a) t ≡ Atom a
  is_atom_there a t e = ap (instance (other a)) (sym e) ∙ sym (made a w) ∙ here a

  by_case : (u : ℕ) → value w ≡ Var u → (u ≡ w) ⊎ (u ≡ w → ⊥) → value w ≡ Var w
  by_case u e (inl same) = e ∙ ap Var same
  by_case u e (inr ne) = absurd (atoms_differ (sym (is_atom_there 0 (Var u) e) ∙ instance-Var (other 0) u ∙ there u ne ∙ sym (instance-Var (other 1) u) ∙ is_atom_there 1 (Var u) e))

  by_view : (t : Term) → value w ≡ t → View t → value w ≡ Var w
  by_view t e (is_var u) = by_case u e (cases_eq u w)
  by_view t e (is_int n) = absurd (int_is_no_atom n 0 (sym (fold-Int Term (instance_step (other 0)) n) ∙ is_atom_there 0 (Int n) e))
  by_view t e (is_atom a) = absurd (atoms_differ (sym (is_atom_there 0 (Atom a) e) ∙ fold-Atom Term (instance_step (other 0)) a ∙ sym (fold-Atom Term (instance_step (other 1)) a) ∙ is_atom_there 1 (Atom a) e))
  by_view t e (is_node f ts) = absurd (layer_is_no_atom f 0 (map (instance (other 0)) ts) (sym (outs-Node f (map (instance (other 0)) ts)) ∙ ap out-Term (sym (instance-Node (other 0) f ts) ∙ is_atom_there 0 (Node f ts) e) ∙ outs-Atom 0))

pub binds_first : (t : Term) (v : ℕ) → occurs v t ≡ false → IsMostGeneral (record { left = t; right = Var v } ∷ []) (only v t)
binds_first t v absent = record {
  solves = (replace-absent v t t absent ∙ sym (instance-Var (only v t) v ∙ only_same v t), tt);
  general = λ other h w. sym (replaced_same other v t (h.0 ∙ instance-Var other v) w);
}
