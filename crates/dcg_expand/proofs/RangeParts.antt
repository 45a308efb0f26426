-- Terms in range, put together and taken apart.
use Rattle.std.proofs.Common.{◌≡◌, ◌≤◌, ◌<◌, ℕ, Bool, true, false, List, [], ◌∷◌, ◌++◌, map, length, suc, refl, sym, ap, ◌∙◌, arith, subst}
use Rattle.std.proofs.lemmas.Bool.Decides.{nat_tests}
use Rattle.std.proofs.lemmas.Bool.{and_parts}
use Rattle.std.specs.Prelude.{◌==◌, ◌&&◌, nat_lt, nat_le, Option, Some, None, if◌then◌else◌}
use Rattle.std.specs.List.{list_all, AllByRecursion}
use Rattle.term_core.specs.declared.terms.Term.{Term, Var, Atom, Node, roll-Term}
use Rattle.term_core.specs.declared.terms.Term.TheOpen as layer
use Rattle.term_core.specs.declared.terms.Term.TheVariants.{rolls-Node}
use Rattle.term_core.specs.Terms.{above, above_step, greatest}
use Rattle.term_core.specs.Ranges.{has_names, has_names_step, IsInRange}
use Rattle.term_core.specs.Shapes.{pair_of}
use Rattle.term_core.proofs.TermFolds.{fold-Var, fold-Atom, fold-Node}
use Rattle.dcg_expand.specs.Making.{Making, followed}

-- what is so of both is so of the one that is chosen
pub chosen : {A : Type 0} (P : A → Type 0) (b : Bool) (x y : A) → P x → P y → P (if b then x else y)
chosen P true x y p q = p
chosen P false x y p q = q

is_less : (a n : ℕ) → a < n → nat_lt a n ≡ true
is_less a n lt = grind (arith, nat_tests)

less_is : (a n : ℕ) → nat_lt a n ≡ true → a < n
less_is a n e = grind (arith, nat_tests)

is_within : (a n : ℕ) → a ≤ n → nat_le a n ≡ true
is_within a n le = grind (arith, nat_tests)

pub within_is : (a n : ℕ) → nat_le a n ≡ true → a ≤ n
within_is a n e = grind (arith, nat_tests)

both : (a b : Bool) → a ≡ true → b ≡ true → (a && b) ≡ true
both true b e h = h
both false b e h = cc

-- with more variables
pub widened : (n v w : ℕ) (t : Term) → v ≤ w → IsInRange n v t → IsInRange n w t
widened n v w t le is = record { named = is.named; below = let p : _ = is.below in omega (arith, p, le) }

pub all_widened : (n v w : ℕ) (ts : List Term) → v ≤ w → AllByRecursion (IsInRange n v) ts → AllByRecursion (IsInRange n w) ts
all_widened n v w [] le h = tt
all_widened n v w (t ∷ ts) le h = (widened n v w t le h.0, all_widened n v w ts le h.1)

-- of two lists
pub all_behind : (n v : ℕ) (ts us : List Term) → AllByRecursion (IsInRange n v) ts → AllByRecursion (IsInRange n v) us → AllByRecursion (IsInRange n v) (ts ++ us)
all_behind n v [] us h k = k
all_behind n v (t ∷ ts) us h k = (h.0, all_behind n v ts us h.1 k)

pub variable_in : (n v x : ℕ) → x < v → IsInRange n v (Var x)
variable_in n v x lt = record { named = fold-Var Bool (has_names_step n) x; below = let p : _ = fold-Var ℕ above_step x in omega (arith, p, lt) }

pub atom_in : (n v a : ℕ) → a < n → IsInRange n v (Atom a)
atom_in n v a lt = record { named = fold-Atom Bool (has_names_step n) a ∙ is_less a n lt; below = let p : _ = fold-Atom ℕ above_step a in omega (arith, p) }

-- the name of an atom
pub atom_name : (n v a : ℕ) → IsInRange n v (Atom a) → a < n
atom_name n v a is = less_is a n (sym (fold-Atom Bool (has_names_step n) a) ∙ is.named)

lengths : (n : ℕ) (ts : List Term) → length (map (has_names n) ts) ≡ length ts
lengths n [] = refl
lengths n (t ∷ ts) = ap (λ k. suc k) (lengths n ts)

all_named : (n v : ℕ) (ts : List Term) → AllByRecursion (IsInRange n v) ts → list_all (λ part. part) (map (has_names n) ts) ≡ true
all_named n v [] h = refl
all_named n v (t ∷ ts) h = both (has_names n t) _ h.0.named (all_named n v ts h.1)

all_below : (n v : ℕ) (ts : List Term) → AllByRecursion (IsInRange n v) ts → greatest (map above ts) ≤ v
all_below n v [] h = omega arith
all_below n v (t ∷ ts) h = let p : _ = h.0.below in let q : _ = all_below n v ts h.1 in omega (arith, p, q)

-- a name with 1 to 255 arguments in range
pub compound_in : (n v f : ℕ) (ts : List Term) → f < n → 1 ≤ length ts → length ts ≤ 255 → AllByRecursion (IsInRange n v) ts → IsInRange n v (Node f ts)
compound_in n v f ts lt some few h = record {
  named = fold-Node Bool (has_names_step n) f ts ∙ both (nat_lt f n) _ (is_less f n lt) (both _ _ (ap (λ k. nat_le 1 k && nat_le k 255) (lengths n ts) ∙ both _ _ (is_within 1 (length ts) some) (is_within (length ts) 255 few)) (all_named n v ts h));
  below = subst (λ k. k ≤ v) (sym (fold-Node ℕ above_step f ts)) (all_below n v ts h);
}

-- the name of a compound
pub compound_name : (n v f : ℕ) (ts : List Term) → IsInRange n v (Node f ts) → f < n
compound_name n v f ts is = less_is f n (and_parts (nat_lt f n) _ (sym (fold-Node Bool (has_names_step n) f ts) ∙ is.named)).0

each_in : (n v : ℕ) (ts : List Term) → list_all (λ part. part) (map (has_names n) ts) ≡ true → greatest (map above ts) ≤ v → AllByRecursion (IsInRange n v) ts
each_in n v [] e le = tt
each_in n v (t ∷ ts) e le =
    let parts = and_parts (has_names n t) _ e in
    (record { named = parts.0; below = omega (arith, le) }, each_in n v ts parts.1 (omega (arith, le)))

-- its arguments
pub compound_parts : (n v f : ℕ) (ts : List Term) → IsInRange n v (Node f ts) → AllByRecursion (IsInRange n v) ts
compound_parts n v f ts is =
    let named = and_parts (nat_lt f n) _ (sym (fold-Node Bool (has_names_step n) f ts) ∙ is.named) in
    each_in n v ts (and_parts _ (list_all (λ part. part) (map (has_names n) ts)) named.1).1 (subst (λ k. k ≤ v) (fold-Node ℕ above_step f ts) is.below)

-- how many it has
pub compound_length : (n v f : ℕ) (ts : List Term) → IsInRange n v (Node f ts) → (1 ≤ length ts) × (length ts ≤ 255)
compound_length n v f ts is =
    let named = and_parts (nat_lt f n) _ (sym (fold-Node Bool (has_names_step n) f ts) ∙ is.named) in
    let counted = and_parts (nat_le 1 (length ts)) _ (ap (λ k. nat_le 1 k && nat_le k 255) (sym (lengths n ts)) ∙ (and_parts _ (list_all (λ part. part) (map (has_names n) ts)) named.1).0) in
    (within_is 1 (length ts) counted.0, within_is (length ts) 255 counted.1)

-- two terms, where they are there, are in range
abbrev pub BothIn : ℕ → ℕ → Option (Term × Term) → Type 0
BothIn n v None = Unit {0}
BothIn n v (Some p) = IsInRange n v p.0 × IsInRange n v p.1

-- the arguments of a compound of two arguments
pub pair_parts : (n v g : ℕ) (t : layer.Term-F Term) (u : Term) → roll-Term t ≡ u → IsInRange n v u → BothIn n v (pair_of g t)
pair_parts n v g (layer.Var x) u e is = tt
pair_parts n v g (layer.Int i) u e is = tt
pair_parts n v g (layer.Atom a) u e is = tt
pair_parts n v g (layer.Node f []) u e is = tt
pair_parts n v g (layer.Node f (l ∷ [])) u e is = tt
pair_parts n v g (layer.Node f (l ∷ r ∷ [])) u e is =
    let parts = compound_parts n v f (l ∷ r ∷ []) (subst (IsInRange n v) (sym e ∙ rolls-Node f (l ∷ r ∷ [])) is) in
    chosen (BothIn n v) (f == g) (Some (l, r)) None (parts.0, parts.1.0) tt
pair_parts n v g (layer.Node f (l ∷ r ∷ c ∷ rest)) u e is = tt

-- what is made, where it is there, has this property with the number of variables then, and these are no fewer
abbrev pub MadeIn : {A : Type 0} → (ℕ → A → Type 0) → ℕ → Option (A × ℕ) → Type 0
MadeIn P next None = Unit {0}
MadeIn P next (Some x) = (next ≤ x.1) × P x.1 x.0

-- what follows something made
pub then_in : {A B : Type 0} (P : ℕ → A → Type 0) (Q : ℕ → B → Type 0) (next here : ℕ) (o : Option (A × ℕ)) (f : A → Making B) → MadeIn P here o → ((x : A) (k : ℕ) → here ≤ k → P k x → MadeIn Q next (f x k)) → MadeIn Q next (followed f o)
then_in P Q next here None f h more = tt
then_in P Q next here (Some x) f h more = more x.0 x.1 h.0 h.1
