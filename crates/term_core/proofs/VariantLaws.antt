-- Terms each of which is an instance of the other.
use Rattle.std.proofs.Common.{◌≡◌, ℕ, Bool, true, false, ◌||◌, ◌⊎◌, inl, inr, List, [], ◌∷◌, ◌++◌, map, refl, sym, ap, ◌∙◌, subst, true≢false}
use Rattle.std.specs.Prelude.{if◌then◌else◌}
use Rattle.std.specs.List.{list_any, AllByRecursion}
use Rattle.std.proofs.lemmas.Bool.{eqb-true, eq-eqb, ne_eqb, cases_eq}
use Rattle.std.proofs.lemmas.List.{map-append}
use Rattle.term_core.specs.declared.terms.Term.{Term, Var, Int, Atom, Node, out-Term, roll-Term, roll-out-Term}
use Rattle.term_core.specs.declared.terms.Term.TheOpen as layer
use Rattle.term_core.specs.declared.terms.Term.TheVariants.{rolls-Var, rolls-Int, rolls-Atom, rolls-Node, outs-Node}
use Rattle.term_core.specs.declared.equations.Equation.{Equation}
use Rattle.term_core.specs.Terms.{instance, only, occurs, occurs_step}
use Rattle.term_core.specs.Unify.{pairs}
use Rattle.term_core.specs.Solutions.{Solves}
use Rattle.term_core.proofs.TermFolds.{fold-Int, fold-Atom, ind_terms}
use Rattle.term_core.proofs.TermLaws.{instance-Var, instance-Node, instance-instance, instance-itself}
use Rattle.term_core.proofs.Occurrences.{occurs-Node, occurs-Var}
use Rattle.term_core.specs.Variants.{all_instances, AreVariants, IsMostGeneral}

-- what a term is, with the parts of a compound as a list
pub data View : Term → Type 0 where
  is_var : (v : ℕ) → View (Var v)
  is_int : (n : _) → View (Int n)
  is_atom : (a : ℕ) → View (Atom a)
  is_node : (f : ℕ) (ts : List Term) → View (Node f ts)

view_layer : (x : layer.Term-F Term) → View (roll-Term x)
view_layer (layer.Var v) = subst View (sym (rolls-Var v)) (is_var v)
view_layer (layer.Int n) = subst View (sym (rolls-Int n)) (is_int n)
view_layer (layer.Atom a) = subst View (sym (rolls-Atom a)) (is_atom a)
view_layer (layer.Node f ts) = subst View (sym (rolls-Node f ts)) (is_node f ts)

pub view : (t : Term) → View t
view t = subst View (roll-out-Term t) (view_layer (out-Term t))

-- variables that differ

pub var_inside : (v w : ℕ) → Var v ≡ Var w → v ≡ w
var_inside v w e = cc

layers : (s t : Term) → s ≡ t → out-Term s ≡ out-Term t
layers s t e = ap out-Term e

pub node_inside : (f g : ℕ) (ts us : List Term) → Node f ts ≡ Node g us → (f ≡ g) × (ts ≡ us)
node_inside f g ts us e = inside (sym (outs-Node f ts) ∙ ap out-Term e ∙ outs-Node g us) where
  inside : layer.Node f ts ≡ layer.Node g us → (f ≡ g) × (ts ≡ us)
  inside e = (cc, cc)

or_second : (a b : Bool) → b ≡ true → (a || b) ≡ true
or_second true b e = refl
or_second false b e = e

-- a variable that stands in a value stands in the instance
pub occurs_instance : (value : ℕ → Term) (v w : ℕ) (t : Term) → occurs w (value v) ≡ true → occurs v t ≡ true → occurs w (instance value t) ≡ true
occurs_instance value v w t stands =
    ind_terms (λ t. occurs v t ≡ true → occurs w (instance value t) ≡ true)
    (λ u o. ap (occurs w) (instance-Var value u ∙ ap value (sym (eqb-true v u (sym (occurs-Var v u) ∙ o)))) ∙ stands)
    (λ n o. absurd (true≢false (sym o ∙ fold-Int Bool (occurs_step v) n)))
    (λ a o. absurd (true≢false (sym o ∙ fold-Atom Bool (occurs_step v) a)))
    (λ f ts h o. ap (occurs w) (instance-Node value f ts) ∙ occurs-Node w f (map (instance value) ts) ∙ one_of ts h (sym (occurs-Node v f ts) ∙ o))
    t
  where
    one_of : (ts : List Term) → AllByRecursion (λ t. occurs v t ≡ true → occurs w (instance value t) ≡ true) ts → list_any (λ b. b) (map (occurs v) ts) ≡ true → list_any (λ b. b) (map (occurs w) (map (instance value) ts)) ≡ true
    one_of [] h o = o
    one_of (t ∷ ts) h o = either (occurs v t) refl (one_of ts h.1) o where
      either : (b : Bool) → occurs v t ≡ b → (list_any (λ b. b) (map (occurs v) ts) ≡ true → list_any (λ b. b) (map (occurs w) (map (instance value) ts)) ≡ true) →
          (b || list_any (λ b. b) (map (occurs v) ts)) ≡ true → (occurs w (instance value t) || list_any (λ b. b) (map (occurs w) (map (instance value) ts))) ≡ true
      either true e rest o = ap (λ b. b || list_any (λ b. b) (map (occurs w) (map (instance value) ts))) (h.0 e)
      either false e rest o = or_second (occurs w (instance value t)) _ (rest o)

-- equations

pub all_instances-append : (value : ℕ → Term) (es fs : List Equation) → all_instances value (es ++ fs) ≡ all_instances value es ++ all_instances value fs
all_instances-append value es fs = map-append (λ e. record { left = instance value e.left; right = instance value e.right }) es fs

pub instance_pairs : (value : ℕ → Term) (ts us : List Term) → all_instances value (pairs ts us) ≡ pairs (map (instance value) ts) (map (instance value) us)
instance_pairs value [] us = refl
instance_pairs value (t ∷ ts) [] = refl
instance_pairs value (t ∷ ts) (u ∷ us) = ap (λ es. record { left = instance value t; right = instance value u } ∷ es) (instance_pairs value ts us)

pub all_instances-itself : (es : List Equation) → all_instances Var es ≡ es
all_instances-itself [] = refl
all_instances-itself (e ∷ es) = λ i. record { left = instance-itself e.left i; right = instance-itself e.right i } ∷ all_instances-itself es i

-- instances of instances of equations
pub all_instances_twice : (f g h : ℕ → Term) → ((v : ℕ) → instance f (g v) ≡ h v) → (es : List Equation) → all_instances f (all_instances g es) ≡ all_instances h es
all_instances_twice f g h e [] = refl
all_instances_twice f g h e (x ∷ xs) =
    let each : (t : Term) → instance f (instance g t) ≡ instance h t = λ t. instance-instance f g t ∙ (λ i. instance (λ v. e v i) t) in
    λ i. record { left = each x.left i; right = each x.right i } ∷ all_instances_twice f g h e xs i

pub only_same : (v : ℕ) (t : Term) → only v t v ≡ t
only_same v t = ap (λ b. if b then t else Var v) (eq-eqb v v refl)

pub only_other : (v : ℕ) (t : Term) (w : ℕ) → (v ≡ w → ⊥) → only v t w ≡ Var w
only_other v t w ne = ap (λ b. if b then t else Var w) (ne_eqb v w ne)

-- values that give a variable and its term one instance do not see that it is replaced
pub replaced_same : (value : ℕ → Term) (v : ℕ) (t : Term) → instance value t ≡ value v → (w : ℕ) → instance value (only v t w) ≡ value w
replaced_same value v t e w = by_place (cases_eq v w) where
  by_place : (v ≡ w) ⊎ (v ≡ w → ⊥) → instance value (only v t w) ≡ value w
  by_place (inl same) = ap (λ x. instance value (only v t x)) (sym same) ∙ ap (instance value) (only_same v t) ∙ e ∙ ap value same
  by_place (inr ne) = ap (instance value) (only_other v t w ne) ∙ instance-Var value w

-- a solution, which puts terms that are instances of these for the variables
pub solves_instance : (f g : ℕ → Term) (es : List Equation) → Solves f (all_instances g es) → Solves (λ v. instance f (g v)) es
solves_instance f g [] h = tt
solves_instance f g (e ∷ es) h = (sym (instance-instance f g e.left) ∙ h.0 ∙ instance-instance f g e.right, solves_instance f g es h.1)

-- what two most general solutions give
pub general_variants : (there back : ℕ → Term) (es es' : List Equation) (value value' : ℕ → Term) → AreVariants there back es es' → IsMostGeneral es value → IsMostGeneral es' value' →
    (t t' : Term) → instance there t ≡ t' → instance (λ v. instance value' (there v)) (instance value t) ≡ instance value' t'
general_variants there back es es' value value' are m m' t t' e =
    let both : ℕ → Term = λ v. instance value' (there v) in
    let solved : Solves both es = solves_instance value' there es (subst (Solves value') (sym are.is_there) m'.solves) in
    instance-instance both value t ∙ sym (λ i. instance (λ v. m.general both solved v i) t) ∙ sym (instance-instance value' there t) ∙ ap (instance value') e
