-- Terms in range, taken apart.
use Rattle.std.proofs.Common.{◌≡◌, ◌≤◌, ◌<◌, ℕ, Bool, true, false, List, [], ◌∷◌, map, length, suc, refl, sym, ap, ◌∙◌, arith, subst}
use Rattle.std.proofs.lemmas.Bool.Decides.{nat_tests}
use Rattle.std.proofs.lemmas.Bool.{and_parts}
use Rattle.std.specs.Prelude.{◌==◌, ◌&&◌, nat_lt, nat_le, Option, Some, None, cond}
use Rattle.std.specs.List.{list_all, AllByRecursion}
use Rattle.term_core.specs.declared.terms.Term.{Term, Atom, Node, roll-Term, out-Term, roll-out-Term}
use Rattle.term_core.specs.declared.terms.Term.TheOpen as layer
use Rattle.term_core.specs.declared.terms.Term.TheVariants.{rolls-Node}
use Rattle.term_core.specs.Terms.{above, above_step, greatest}
use Rattle.term_core.specs.Ranges.{has_names, has_names_step, IsInRange}
use Rattle.term_core.specs.Shapes.{pair_of, split_by, split}
use Rattle.term_core.proofs.TermFolds.{fold-Atom, fold-Node}

pub less_is : (a n : ℕ) → nat_lt a n ≡ true → a < n
less_is a n e = grind (arith, nat_tests)

pub is_less : (a n : ℕ) → a < n → nat_lt a n ≡ true
is_less a n lt = grind (arith, nat_tests)

within_is : (a n : ℕ) → nat_le a n ≡ true → a ≤ n
within_is a n e = grind (arith, nat_tests)

pub is_within : (a n : ℕ) → a ≤ n → nat_le a n ≡ true
is_within a n le = grind (arith, nat_tests)

lengths : (n : ℕ) (ts : List Term) → length (map (has_names n) ts) ≡ length ts
lengths n [] = refl
lengths n (t ∷ ts) = ap (λ k. suc k) (lengths n ts)

-- the name of an atom
pub atom_name : (n v a : ℕ) → IsInRange n v (Atom a) → a < n
atom_name n v a is = less_is a n (sym (fold-Atom Bool (has_names_step n) a) ∙ is.named)

-- the name of a compound
pub compound_name : (n v f : ℕ) (ts : List Term) → IsInRange n v (Node f ts) → f < n
compound_name n v f ts is = less_is f n (and_parts (nat_lt f n) _ (sym (fold-Node Bool (has_names_step n) f ts) ∙ is.named)).0

each_in : (n v : ℕ) (ts : List Term) → list_all (λ part. part) (map (has_names n) ts) ≡ true → greatest (map above ts) ≤ v → AllByRecursion (IsInRange n v) ts
each_in n v [] e le = tt
each_in n v (t ∷ ts) e le =
    let parts = and_parts (has_names n t) _ e in
    (record { named = parts.0; below = omega (arith, le) }, each_in n v ts parts.1 (omega (arith, le)))

-- its arguments
pub compound_parts : (n v f : ℕ) (ts : List Term) → IsInRange n v (Node f ts) → AllByRecursion (IsInRange n v) ts
compound_parts n v f ts is =
    let named = and_parts (nat_lt f n) _ (sym (fold-Node Bool (has_names_step n) f ts) ∙ is.named) in
    each_in n v ts (and_parts _ (list_all (λ part. part) (map (has_names n) ts)) named.1).1 (subst (λ k. k ≤ v) (fold-Node ℕ above_step f ts) is.below)

-- how many it has at most
pub compound_length : (n v f : ℕ) (ts : List Term) → IsInRange n v (Node f ts) → length ts ≤ 255
compound_length n v f ts is =
    let named = and_parts (nat_lt f n) _ (sym (fold-Node Bool (has_names_step n) f ts) ∙ is.named) in
    let counted = and_parts (nat_le 1 (length ts)) _ (ap (λ k. nat_le 1 k && nat_le k 255) (sym (lengths n ts)) ∙ (and_parts _ (list_all (λ part. part) (map (has_names n) ts)) named.1).0) in
    within_is (length ts) 255 counted.1

-- two terms, where they are there, are in range
abbrev BothIn : ℕ → ℕ → Option (Term × Term) → Type 0
BothIn n v None = Unit {0}
BothIn n v (Some p) = IsInRange n v p.0 × IsInRange n v p.1

chosen : {A : Type 0} (P : A → Type 0) (b : Bool) (x y : A) → P x → P y → P (cond b x y)
chosen P true x y p q = p
chosen P false x y p q = q

-- the arguments of a compound of two arguments
pair_parts : (n v g : ℕ) (t : layer.Term-F Term) (u : Term) → roll-Term t ≡ u → IsInRange n v u → BothIn n v (pair_of g t)
pair_parts n v g (layer.Var x) u e is = tt
pair_parts n v g (layer.Int i) u e is = tt
pair_parts n v g (layer.Atom a) u e is = tt
pair_parts n v g (layer.Node f []) u e is = tt
pair_parts n v g (layer.Node f (l ∷ [])) u e is = tt
pair_parts n v g (layer.Node f (l ∷ r ∷ [])) u e is =
    let parts = compound_parts n v f (l ∷ r ∷ []) (subst (IsInRange n v) (sym e ∙ rolls-Node f (l ∷ r ∷ [])) is) in
    chosen (BothIn n v) (f == g) (Some (l, r)) None (parts.0, parts.1.0) tt
pair_parts n v g (layer.Node f (l ∷ r ∷ c ∷ rest)) u e is = tt

-- a term, and another where it is there
abbrev pub SplitIn : ℕ → ℕ → Term × Option Term → Type 0
SplitIn n v p = IsInRange n v p.0 × ((field : Term) → p.1 ≡ Some field → IsInRange n v field)

some_is : {A : Type 0} (x y : A) → ◌≡◌ {A = Option A} (Some x) (Some y) → x ≡ y
some_is x y e = cc

none_is : {A : Type 0} (x : A) → ◌≡◌ {A = Option A} None (Some x) → ⊥
none_is x e = cc

-- what a mark splits
pub split_in : (n v mark : ℕ) (t : Term) → IsInRange n v t → SplitIn n v (split mark t)
split_in n v mark t is = by (pair_of mark (out-Term t)) (pair_parts n v mark (out-Term t) t (roll-out-Term t) is)
  where
    by : (o : Option (Term × Term)) → BothIn n v o → SplitIn n v (split_by t o)
    by None h = (is, λ field e. absurd (none_is field e))
    by (Some p) h = (h.0, λ field e. subst (IsInRange n v) (some_is p.1 field e) h.1)
