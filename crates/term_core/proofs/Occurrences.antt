-- Which variables stand in a term once one is replaced.
use Rattle.std.proofs.Common.{◌≡◌, ℕ, Bool, true, false, ◌||◌, ◌==◌, List, [], ◌∷◌, map, refl, sym, ap, ◌∙◌, true≢false}
use Rattle.std.specs.Prelude.{if◌then◌else◌}
use Rattle.std.specs.List.{list_any, AllByRecursion}
use Rattle.term_core.specs.declared.terms.Term.{Term, Var, Node}
use Rattle.term_core.specs.Terms.{occurs, occurs_step, only, replace, instance_step}
use Rattle.term_core.proofs.TermFolds.{fold-Node, fold-Var, fold-Int, fold-Atom, ind_terms}
use Rattle.term_core.proofs.TermLaws.{instance-Var, instance-Node}

-- the equations of `occurs` and `replace` at a compound, over the list of its parts
pub occurs-Node : (v f : ℕ) (ts : List Term) → occurs v (Node f ts) ≡ list_any (λ b. b) (map (occurs v) ts)
occurs-Node v f ts = fold-Node Bool (occurs_step v) f ts

pub occurs-Var : (v w : ℕ) → occurs v (Var w) ≡ (v == w)
occurs-Var v w = fold-Var Bool (occurs_step v) w

pub replace-Node : (v : ℕ) (t : Term) (f : ℕ) (ts : List Term) → replace v t (Node f ts) ≡ Node f (map (replace v t) ts)
replace-Node v t f ts = instance-Node (only v t) f ts

pub replace-Var : (v : ℕ) (t : Term) (w : ℕ) → replace v t (Var w) ≡ (if v == w then t else Var w)
replace-Var v t w = instance-Var (only v t) w

or_left : (a b : Bool) → a ≡ true → (a || b) ≡ true
or_left true b h = refl
or_left false b h = cc

or_right : (a b : Bool) → b ≡ true → (a || b) ≡ true
or_right true b h = refl
or_right false b h = h

join : (a as' b bs t : Bool) → (a ≡ true → (b || t) ≡ true) → (as' ≡ true → (bs || t) ≡ true) → (a || as') ≡ true → ((b || bs) || t) ≡ true
join true as' true bs t f g h = refl
join true as' false bs true f g h = or_right bs true refl
join true as' false bs false f g h = absurd (true≢false (sym (f refl)))
join false as' true bs t f g h = refl
join false as' false bs t f g h = g h

-- what is put in for v has no v, so v is gone
pub occurs-replace_self : (v : ℕ) (t u : Term) → occurs v t ≡ false → occurs v (replace v t u) ≡ false
occurs-replace_self v t u absent =
    ind_terms (λ u. occurs v (replace v t u) ≡ false)
    (λ w. at_var w (v == w) refl)
    (λ n. ap (occurs v) (fold-Int Term (instance_step (only v t)) n) ∙ fold-Int Bool (occurs_step v) n)
    (λ a. ap (occurs v) (fold-Atom Term (instance_step (only v t)) a) ∙ fold-Atom Bool (occurs_step v) a)
    (λ f ts ih. ap (occurs v) (replace-Node v t f ts) ∙ occurs-Node v f _ ∙ each ts ih)
    u
  where
    at_var : (w : ℕ) (b : Bool) → b ≡ (v == w) → occurs v (replace v t (Var w)) ≡ false
    at_var w true e = ap (occurs v) (replace-Var v t w ∙ ap (λ b. if b then t else Var w) (sym e)) ∙ absent
    at_var w false e = ap (occurs v) (replace-Var v t w ∙ ap (λ b. if b then t else Var w) (sym e)) ∙ occurs-Var v w ∙ sym e

    each : (ts : List Term) → AllByRecursion (λ u. occurs v (replace v t u) ≡ false) ts → list_any (λ b. b) (map (occurs v) (map (replace v t) ts)) ≡ false
    each [] ih = refl
    each (u ∷ us) ih = ap (λ b. b || list_any (λ b. b) (map (occurs v) (map (replace v t) us))) ih.0 ∙ each us ih.1

-- a variable of the new term was in the old one or in what was put in
pub occurs-replace : (k v : ℕ) (t u : Term) → occurs k (replace v t u) ≡ true → (occurs k u || occurs k t) ≡ true
occurs-replace k v t u =
    ind_terms (λ u. occurs k (replace v t u) ≡ true → (occurs k u || occurs k t) ≡ true)
    (λ w h. at_var w h (v == w) refl)
    (λ n h. absurd (true≢false (sym h ∙ ap (occurs k) (fold-Int Term (instance_step (only v t)) n) ∙ fold-Int Bool (occurs_step k) n)))
    (λ a h. absurd (true≢false (sym h ∙ ap (occurs k) (fold-Atom Term (instance_step (only v t)) a) ∙ fold-Atom Bool (occurs_step k) a)))
    (λ f ts ih h. ap (λ b. b || occurs k t) (occurs-Node k f ts) ∙ each ts ih (sym (occurs-Node k f _) ∙ ap (occurs k) (sym (replace-Node v t f ts)) ∙ h))
    u
  where
    at_var : (w : ℕ) → occurs k (replace v t (Var w)) ≡ true → (b : Bool) → b ≡ (v == w) → (occurs k (Var w) || occurs k t) ≡ true
    at_var w h true e = or_right (occurs k (Var w)) _ (ap (occurs k) (sym (replace-Var v t w ∙ ap (λ b. if b then t else Var w) (sym e))) ∙ h)
    at_var w h false e = or_left _ _ (ap (occurs k) (sym (replace-Var v t w ∙ ap (λ b. if b then t else Var w) (sym e))) ∙ h)

    each : (ts : List Term) → AllByRecursion (λ u. occurs k (replace v t u) ≡ true → (occurs k u || occurs k t) ≡ true) ts →
        list_any (λ b. b) (map (occurs k) (map (replace v t) ts)) ≡ true → (list_any (λ b. b) (map (occurs k) ts) || occurs k t) ≡ true
    each [] ih h = absurd (true≢false (sym h))
    each (u ∷ us) ih h = join (occurs k (replace v t u)) _ (occurs k u) _ (occurs k t) ih.0 (each us ih.1) h
