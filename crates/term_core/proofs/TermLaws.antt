-- Laws of instances. Those of `replace`, `rename` and `resolve`, which are instances, follow from three.
use Rattle.std.proofs.Common.{◌≡◌, ◌≤◌, ℕ, List, [], ◌∷◌, map, refl, ap, sym, ◌∙◌, arith, true≢false}
use Rattle.std.proofs.lemmas.Bool.{eq-eqb, ne_eqb}
use Rattle.std.proofs.lemmas.Bool.Decides.{nat_tests}
use Rattle.std.specs.Prelude.{Bool, true, false, ◌||◌, ◌==◌, if◌then◌else◌}
use Rattle.std.specs.List.{AllByRecursion, list_any}
use Rattle.term_core.specs.declared.terms.Term.{Term, Var, Node}
use Rattle.term_core.specs.Solutions.{with_value}
use Rattle.term_core.specs.Terms.{instance, instance_step, only, replace, occurs, occurs_step, depth_of, depth_step, greatest}
use Rattle.term_core.proofs.TermFolds.{fold-Var, fold-Int, fold-Atom, fold-Node, ind_terms, map_same}

pub instance-Var : (value : ℕ → Term) (v : ℕ) → instance value (Var v) ≡ value v
instance-Var value v = fold-Var Term (instance_step value) v

pub instance-Node : (value : ℕ → Term) (f : ℕ) (ts : List Term) → instance value (Node f ts) ≡ Node f (map (instance value) ts)
instance-Node value f ts = fold-Node Term (instance_step value) f ts

pub map_map : {A B C : Type 0} (f : B → C) (g : A → B) (xs : List A) → map f (map g xs) ≡ map (λ x. f (g x)) xs
map_map f g [] = refl
map_map f g (x ∷ xs) = ap (λ ys. f (g x) ∷ ys) (map_map f g xs)

pub map_itself : {A : Type 0} (xs : List A) → map (λ x. x) xs ≡ xs
map_itself [] = refl
map_itself (x ∷ xs) = ap (λ ys. x ∷ ys) (map_itself xs)

-- an instance of an instance is one instance
pub instance-instance : (f g : ℕ → Term) (t : Term) → instance f (instance g t) ≡ instance (λ v. instance f (g v)) t
instance-instance f g =
    ind_terms (λ t. instance f (instance g t) ≡ instance (λ v. instance f (g v)) t)
    (λ v. ap (instance f) (instance-Var g v) ∙ sym (instance-Var _ v))
    (λ n. ap (instance f) (fold-Int _ (instance_step g) n) ∙ fold-Int _ (instance_step f) n ∙ sym (fold-Int _ (instance_step (λ v. instance f (g v))) n))
    (λ a. ap (instance f) (fold-Atom _ (instance_step g) a) ∙ fold-Atom _ (instance_step f) a ∙ sym (fold-Atom _ (instance_step (λ v. instance f (g v))) a))
    (λ k ts h. ap (instance f) (instance-Node g k ts) ∙ instance-Node f k _ ∙ ap (Node k) (map_map (instance f) (instance g) ts ∙ map_same _ _ ts h) ∙ sym (instance-Node _ k ts))

-- the instance in which each variable is itself
pub instance-itself : (t : Term) → instance Var t ≡ t
instance-itself =
    ind_terms (λ t. instance Var t ≡ t) (instance-Var Var) (fold-Int _ (instance_step Var)) (fold-Atom _ (instance_step Var))
    (λ f ts h. instance-Node Var f ts ∙ ap (Node f) (map_same _ (λ t. t) ts h ∙ map_itself ts))

eq_itself : (v : ℕ) → (v == v) ≡ true
eq_itself v = grind (arith, nat_tests)

or_first : (a b : Bool) → a ≡ true → (a || b) ≡ true
or_first true b e = refl
or_first false b e = cc

or_second : (a b : Bool) → b ≡ true → (a || b) ≡ true
or_second true b e = refl
or_second false b e = e

-- values that agree on a term's variables give one instance
pub instance_agrees : (f g : ℕ → Term) (t : Term) → ((v : ℕ) → occurs v t ≡ true → f v ≡ g v) → instance f t ≡ instance g t
instance_agrees f g =
    ind_terms (λ t. ((v : ℕ) → occurs v t ≡ true → f v ≡ g v) → instance f t ≡ instance g t)
    (λ v agree. instance-Var f v ∙ agree v (fold-Var _ (occurs_step v) v ∙ eq_itself v) ∙ sym (instance-Var g v))
    (λ n agree. fold-Int _ (instance_step f) n ∙ sym (fold-Int _ (instance_step g) n))
    (λ a agree. fold-Atom _ (instance_step f) a ∙ sym (fold-Atom _ (instance_step g) a))
    (λ k ts h agree. instance-Node f k ts ∙ ap (Node k) (map_same _ _ ts (each ts h (λ v o. agree v (fold-Node _ (occurs_step v) k ts ∙ o)))) ∙ sym (instance-Node g k ts))
  where
    each : (ts : List Term) → AllByRecursion (λ t. ((v : ℕ) → occurs v t ≡ true → f v ≡ g v) → instance f t ≡ instance g t) ts →
        ((v : ℕ) → list_any (λ b. b) (map (occurs v) ts) ≡ true → f v ≡ g v) → AllByRecursion (λ t. instance f t ≡ instance g t) ts
    each [] h agree = tt
    each (t ∷ ts) h agree = (h.0 (λ v o. agree v (or_first _ _ o)), each ts h.1 (λ v o. agree v (or_second (occurs v t) _ o)))

-- replacing a variable that does not occur changes nothing
pub replace-absent : (v : ℕ) (t u : Term) → occurs v u ≡ false → replace v t u ≡ u
replace-absent v t u absent = instance_agrees (only v t) Var u (λ w o. other w o (v == w) refl) ∙ instance-itself u
  where
    eq_of : (w : ℕ) → (v == w) ≡ true → v ≡ w
    eq_of w e = grind (arith, nat_tests)

    other : (w : ℕ) → occurs w u ≡ true → (b : Bool) → (v == w) ≡ b → only v t w ≡ Var w
    other w o false e = ap (λ b. if b then t else Var w) e
    other w o true e = absurd (true≢false (sym o ∙ ap (λ x. occurs x u) (sym (eq_of w e)) ∙ absent))

-- another value at one place

pub with_other : (value : ℕ → Term) (n : ℕ) (t : Term) (i : ℕ) → (i ≡ n → ⊥) → with_value value n t i ≡ value i
with_other value n t i ne = ap (λ b. if b then t else value i) (ne_eqb i n ne)

pub with_same : (value : ℕ → Term) (n : ℕ) (t : Term) → with_value value n t n ≡ t
with_same value n t = ap (λ b. if b then t else value n) (eq-eqb n n refl)

-- an instance is no shallower
pub depth-instance : (f : ℕ → Term) (t : Term) → depth_of t ≤ depth_of (instance f t)
depth-instance f =
    ind_terms (λ t. depth_of t ≤ depth_of (instance f t))
    (λ v. rw (fold-Var ℕ depth_step v) (positive (instance f (Var v))))
    (λ n. rw (fold-Int Term (instance_step f) n) (omega arith))
    (λ a. rw (fold-Atom Term (instance_step f) a) (omega arith))
    (λ k ts h. rw (instance-Node f k ts, fold-Node ℕ depth_step k ts, fold-Node ℕ depth_step k (map (instance f) ts)) (let p : _ = each ts h in omega (arith, p)))
  where
    positive : (t : Term) → 1 ≤ depth_of t
    positive = ind_terms (λ t. 1 ≤ depth_of t)
        (λ v. rw (fold-Var ℕ depth_step v) (omega arith)) (λ n. rw (fold-Int ℕ depth_step n) (omega arith)) (λ a. rw (fold-Atom ℕ depth_step a) (omega arith))
        (λ k ts h. rw (fold-Node ℕ depth_step k ts) (omega arith))

    each : (ts : List Term) → AllByRecursion (λ t. depth_of t ≤ depth_of (instance f t)) ts → greatest (map depth_of ts) ≤ greatest (map depth_of (map (instance f) ts))
    each [] h = omega arith
    each (t ∷ ts) h = let p = h.0 in let q = each ts h.1 in omega (arith, p, q)
