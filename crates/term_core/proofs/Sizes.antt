-- The measures: how large equations are, and how many variables they have.
use Rattle.std.proofs.Common.{◌≡◌, ℕ, ◌+◌, ◌<◌, ◌≤◌, Bool, true, false, ◌||◌, ◌==◌, List, [], ◌∷◌, ◌++◌, map, length, refl, sym, ap, ◌∙◌, arith, true≢false, subst}
use Rattle.std.specs.Prelude.{if◌then◌else◌, ◌&&◌}
use Rattle.std.specs.List.{list_any}
use Rattle.std.specs.Ordering.{int_eq}
use Rattle.std.proofs.lemmas.Bool.{or_left, or_right}
use Rattle.std.proofs.lemmas.Bool.Decides.{nat_tests}
use Rattle.term_core.specs.declared.terms.Term.{Term, out-Term, roll-Term, roll-out-Term}
use Rattle.term_core.specs.declared.terms.Term.TheOpen.{Term-F, Var, Int, Atom, Node}
use Rattle.term_core.specs.declared.terms.Term.TheFolds.{fold-Term, fold_out-Term}
use Rattle.term_core.specs.declared.terms.Term.TheVariants.{rolls-Var, rolls-Int, rolls-Atom, rolls-Node}
use Rattle.term_core.specs.Terms.{occurs, occurs_step}
use Rattle.term_core.proofs.TermFolds.{fold-Node, fold-Int, fold-Atom}
use Rattle.term_core.proofs.Occurrences.{occurs-Node, occurs-Var}
use Rattle.term_core.specs.Sizes.{total, size, size_step}
use Rattle.term_core.specs.Unify.{occurs_in, pairs, Move, Becomes, Binds, Clashes, Cycles, move_at, move}
use Rattle.term_core.specs.declared.equations.Equation.{Equation}

size_step_pos : (x : Term-F ℕ) → 0 < size_step x
size_step_pos (Var v) = omega arith
size_step_pos (Int n) = omega arith
size_step_pos (Atom a) = omega arith
size_step_pos (Node f ns) = omega arith

pub size_pos : (t : Term) → 0 < size t
size_pos t = rw fold_out-Term (size_step_pos _)

-- how large the left sides are
abbrev pub weight : List Equation → ℕ
weight [] = 0
weight (e ∷ es) = size e.left + weight es

pub weight-append : (es fs : List Equation) → weight (es ++ fs) ≡ weight es + weight fs
weight-append [] fs = omega arith
weight-append (e ∷ es) fs = omega (arith, weight-append es fs)

weight-pairs : (ts us : List Term) → weight (pairs ts us) ≤ total (map size ts)
weight-pairs [] us = omega arith
weight-pairs (t ∷ ts) [] = omega arith
weight-pairs (t ∷ ts) (u ∷ us) = omega (arith, weight-pairs ts us)

occurs_in-pairs : (k : ℕ) (ts us : List Term) → occurs_in k (pairs ts us) ≡ true → (list_any (λ b. b) (map (occurs k) ts) || list_any (λ b. b) (map (occurs k) us)) ≡ true
occurs_in-pairs k [] us h = absurd (true≢false (sym h))
occurs_in-pairs k (t ∷ ts) [] h = absurd (true≢false (sym h))
occurs_in-pairs k (t ∷ ts) (u ∷ us) h = regroup (occurs k t) (occurs k u) _ _ _ (occurs_in-pairs k ts us) h
  where
    regroup : (a b c d e : Bool) → (c ≡ true → (d || e) ≡ true) → ((a || b) || c) ≡ true → ((a || d) || (b || e)) ≡ true
    regroup true b c d e f h = refl
    regroup false true c true e f h = refl
    regroup false true c false e f h = refl
    regroup false false c true e f h = refl
    regroup false false c false e f h = f h

-- what a move makes of an equation: smaller equations, with no new variable
abbrev Smaller : Term → Term → List Equation → Type 0
Smaller l r es = (weight es < size l) × ((k : ℕ) → occurs_in k es ≡ true → (occurs k l || occurs k r) ≡ true)

nothing_left : (l r : Term) (es : List Equation) → [] ≡ es → Smaller l r es
nothing_left l r es e = subst (Smaller l r) e (size_pos l, λ k h. absurd (true≢false (sym h)))

dropped : (b : Bool) (m : Move) (l r : Term) (es : List Equation) → ((es : List Equation) → m ≡ Becomes es → ⊥) → (if b then Becomes [] else m) ≡ Becomes es → Smaller l r es
dropped true m l r es never e = nothing_left l r es cc
dropped false m l r es never e = absurd (never es e)

bound : (v : ℕ) (t : Term) (b : Bool) (es : List Equation) → (if b then Cycles else Binds v t) ≡ Becomes es → ⊥
bound v t true es e = cc
bound v t false es e = cc

taken_apart : (l r : Term) (f g : ℕ) (ts us : List Term) (b : Bool) (es : List Equation) → roll-Term (Node f ts) ≡ l → roll-Term (Node g us) ≡ r →
    (if b then Becomes (pairs ts us) else Clashes) ≡ Becomes es → Smaller l r es
taken_apart l r f g ts us false es el er e = cc
taken_apart l r f g ts us true es el er e =
    let same : pairs ts us ≡ es = cc in
    let big : size l ≡ total (map size ts) + 1 = ap size (sym el ∙ rolls-Node f ts) ∙ fold-Node ℕ size_step f ts in
    let left : (k : ℕ) → occurs k l ≡ list_any (λ b. b) (map (occurs k) ts) = λ k. ap (occurs k) (sym el ∙ rolls-Node f ts) ∙ occurs-Node k f ts in
    let right : (k : ℕ) → occurs k r ≡ list_any (λ b. b) (map (occurs k) us) = λ k. ap (occurs k) (sym er ∙ rolls-Node g us) ∙ occurs-Node k g us in
    subst (Smaller l r) same (omega (arith, weight-pairs ts us), λ k h. ap (λ b. b || occurs k r) (left k) ∙ ap (λ b. list_any (λ b. b) (map (occurs k) ts) || b) (right k) ∙ occurs_in-pairs k ts us h)

becomes : (l r : Term) (x y : Term-F Term) (es : List Equation) → roll-Term x ≡ l → roll-Term y ≡ r → move_at l r x y ≡ Becomes es → Smaller l r es
becomes l r (Var v) (Var w) es el er e = dropped (v == w) _ l r es (λ es e. cc) e
becomes l r (Var v) (Int n) es el er e = cc
becomes l r (Var v) (Atom b) es el er e = cc
becomes l r (Var v) (Node g us) es el er e = absurd (bound v r _ es e)
becomes l r (Int m) (Var w) es el er e = cc
becomes l r (Int m) (Int n) es el er e = dropped (int_eq m n) _ l r es (λ es e. cc) e
becomes l r (Int m) (Atom b) es el er e = cc
becomes l r (Int m) (Node g us) es el er e = cc
becomes l r (Atom a) (Var w) es el er e = cc
becomes l r (Atom a) (Int n) es el er e = cc
becomes l r (Atom a) (Atom b) es el er e = dropped (a == b) _ l r es (λ es e. cc) e
becomes l r (Atom a) (Node g us) es el er e = cc
becomes l r (Node f ts) (Var w) es el er e = absurd (bound w l _ es e)
becomes l r (Node f ts) (Int n) es el er e = cc
becomes l r (Node f ts) (Atom b) es el er e = cc
becomes l r (Node f ts) (Node g us) es el er e = taken_apart l r f g ts us ((f == g) && (length ts == length us)) es el er e

pub move_becomes : (e : Equation) (es : List Equation) → move e ≡ Becomes es → Smaller e.left e.right es
move_becomes e es m = becomes e.left e.right (out-Term e.left) (out-Term e.right) es (roll-out-Term e.left) (roll-out-Term e.right) m

-- what a binding says of the equation that gave it
abbrev pub Fresh : Term → Term → ℕ → Term → Type 0
Fresh l r v t = (occurs v t ≡ false) × ((occurs v l || occurs v r) ≡ true) × ((k : ℕ) → occurs k t ≡ true → (occurs k l || occurs k r) ≡ true)

same_number : (v : ℕ) → (v == v) ≡ true
same_number v = grind (arith, nat_tests)

is_var : (v : ℕ) (t : Term) → roll-Term (Var v) ≡ t → (k : ℕ) → occurs k t ≡ (k == v)
is_var v t e k = ap (occurs k) (sym e ∙ rolls-Var v) ∙ occurs-Var k v

fresh_left : (l r : Term) (w v : ℕ) (t : Term) → roll-Term (Var w) ≡ l → occurs w r ≡ false → Binds w r ≡ Binds v t → Fresh l r v t
fresh_left l r w v t el absent e =
    let is_v : w ≡ v = cc in
    let is_t : r ≡ t = cc in
    subst (λ v. Fresh l r v t) is_v (subst (Fresh l r w) is_t (absent, or_left _ _ (is_var w l el w ∙ same_number w), λ k h. or_right (occurs k l) _ h))

fresh_right : (l r : Term) (w v : ℕ) (t : Term) → roll-Term (Var w) ≡ r → occurs w l ≡ false → Binds w l ≡ Binds v t → Fresh l r v t
fresh_right l r w v t er absent e =
    let is_v : w ≡ v = cc in
    let is_t : l ≡ t = cc in
    subst (λ v. Fresh l r v t) is_v (subst (Fresh l r w) is_t (absent, or_right (occurs w l) _ (is_var w r er w ∙ same_number w), λ k h. or_left _ _ h))

no_int : (w : ℕ) (n : _) (t : Term) → roll-Term (Int n) ≡ t → occurs w t ≡ false
no_int w n t e = ap (occurs w) (sym e ∙ rolls-Int n) ∙ fold-Int Bool (occurs_step w) n

no_atom : (w : ℕ) (a : ℕ) (t : Term) → roll-Term (Atom a) ≡ t → occurs w t ≡ false
no_atom w a t e = ap (occurs w) (sym e ∙ rolls-Atom a) ∙ fold-Atom Bool (occurs_step w) a

two_vars : (l r : Term) (w x v : ℕ) (t : Term) (b : Bool) → b ≡ (w == x) → roll-Term (Var w) ≡ l → roll-Term (Var x) ≡ r → (if b then Becomes [] else Binds w r) ≡ Binds v t → Fresh l r v t
two_vars l r w x v t true is el er e = cc
two_vars l r w x v t false is el er e = fresh_left l r w v t el (is_var x r er w ∙ sym is) e

bound_left : (l r : Term) (w v : ℕ) (t : Term) (b : Bool) → b ≡ occurs w r → roll-Term (Var w) ≡ l → (if b then Cycles else Binds w r) ≡ Binds v t → Fresh l r v t
bound_left l r w v t true is el e = cc
bound_left l r w v t false is el e = fresh_left l r w v t el (sym is) e

bound_right : (l r : Term) (w v : ℕ) (t : Term) (b : Bool) → b ≡ occurs w l → roll-Term (Var w) ≡ r → (if b then Cycles else Binds w l) ≡ Binds v t → Fresh l r v t
bound_right l r w v t true is er e = cc
bound_right l r w v t false is er e = fresh_right l r w v t er (sym is) e

neither : (b : Bool) (es : List Equation) (v : ℕ) (t : Term) → (if b then Becomes es else Clashes) ≡ Binds v t → ⊥
neither true es v t e = cc
neither false es v t e = cc

binds : (l r : Term) (x y : Term-F Term) (v : ℕ) (t : Term) → roll-Term x ≡ l → roll-Term y ≡ r → move_at l r x y ≡ Binds v t → Fresh l r v t
binds l r (Var w) (Var x) v t el er e = two_vars l r w x v t (w == x) refl el er e
binds l r (Var w) (Int n) v t el er e = fresh_left l r w v t el (no_int w n r er) e
binds l r (Var w) (Atom b) v t el er e = fresh_left l r w v t el (no_atom w b r er) e
binds l r (Var w) (Node g us) v t el er e = bound_left l r w v t (occurs w r) refl el e
binds l r (Int m) (Var w) v t el er e = fresh_right l r w v t er (no_int w m l el) e
binds l r (Int m) (Int n) v t el er e = absurd (neither (int_eq m n) _ v t e)
binds l r (Int m) (Atom b) v t el er e = cc
binds l r (Int m) (Node g us) v t el er e = cc
binds l r (Atom a) (Var w) v t el er e = fresh_right l r w v t er (no_atom w a l el) e
binds l r (Atom a) (Int n) v t el er e = cc
binds l r (Atom a) (Atom b) v t el er e = absurd (neither (a == b) _ v t e)
binds l r (Atom a) (Node g us) v t el er e = cc
binds l r (Node f ts) (Var w) v t el er e = bound_right l r w v t (occurs w l) refl er e
binds l r (Node f ts) (Int n) v t el er e = cc
binds l r (Node f ts) (Atom b) v t el er e = cc
binds l r (Node f ts) (Node g us) v t el er e = absurd (neither ((f == g) && (length ts == length us)) _ v t e)

pub move_binds : (e : Equation) (v : ℕ) (t : Term) → move e ≡ Binds v t → Fresh e.left e.right v t
move_binds e v t m = binds e.left e.right (out-Term e.left) (out-Term e.right) v t (roll-out-Term e.left) (roll-out-Term e.right) m
