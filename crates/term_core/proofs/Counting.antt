-- Each binding leaves fewer variables.
use Rattle.std.proofs.Common.{◌≡◌, ℕ, ◌+◌, ◌<◌, ◌≤◌, Bool, true, false, ◌||◌, List, [], ◌∷◌, ◌++◌, map, refl, sym, ap, ◌∙◌, arith, true≢false, nat_eq, ⊎_elim}
use Rattle.std.specs.List.{list_any, AllByRecursion}
use Rattle.std.proofs.lemmas.Bool.{or_cases, or_left, or_right}
use Rattle.std.proofs.lemmas.Bool.Decides.{nat_tests}
use Rattle.std.proofs.lemmas.List.Folds.{list_any-append}
use Rattle.term_core.specs.declared.terms.Term.{Term}
use Rattle.std.specs.Prelude.{flat_map}
use Rattle.term_core.specs.Terms.{occurs, occurs_step, replace, occurrences, occurrences_step}
use Rattle.term_core.proofs.TermFolds.{fold-Node, fold-Var, fold-Int, fold-Atom, ind_terms}
use Rattle.term_core.proofs.Occurrences.{occurs-Node, occurs-Var, occurs-replace_self, occurs-replace}
use Rattle.term_core.specs.declared.equations.Equation.{Equation}
use Rattle.term_core.specs.Unify.{replace_all}
use Rattle.term_core.specs.Unify.{occurs_at, occurs_in}

-- all variables of equations, as often as they stand there
abbrev pub all_in : List Equation → List ℕ
all_in [] = []
all_in (e ∷ es) = (occurrences e.left ++ occurrences e.right) ++ all_in es

abbrev pub one : Bool → ℕ
one true = 1
one false = 0

-- how many of these variables stand in the equations
abbrev pub count : List ℕ → List Equation → ℕ
count [] es = 0
count (k ∷ ks) es = one (occurs_in k es) + count ks es

one_if : (a b : Bool) → (a ≡ true → b ≡ true) → one a ≤ one b
one_if true true h = omega arith
one_if true false h = absurd (true≢false (sym (h refl)))
one_if false true h = omega arith
one_if false false h = omega arith

pub count_le : (ks : List ℕ) (new old : List Equation) → ((k : ℕ) → occurs_in k new ≡ true → occurs_in k old ≡ true) → count ks new ≤ count ks old
count_le [] new old h = omega arith
count_le (k ∷ ks) new old h = omega (arith, one_if (occurs_in k new) (occurs_in k old) (h k), count_le ks new old h)

pub count_falls : (ks : List ℕ) (v : ℕ) (new old : List Equation) → ((k : ℕ) → occurs_in k new ≡ true → occurs_in k old ≡ true) →
    occurs_in v new ≡ false → occurs_in v old ≡ true → list_any (nat_eq v) ks ≡ true → count ks new < count ks old
count_falls [] v new old h gone was there = absurd (true≢false (sym there))
count_falls (k ∷ ks) v new old h gone was there = at (nat_eq v k) refl there (count_falls ks v new old h gone was)
  where
    at : (b : Bool) → b ≡ nat_eq v k → (b || list_any (nat_eq v) ks) ≡ true → (list_any (nat_eq v) ks ≡ true → count ks new < count ks old) → count (k ∷ ks) new < count (k ∷ ks) old
    at true e there rest =
        let same : v ≡ k = grind (arith, nat_tests) in
        let less : count ks new ≤ count ks old = count_le ks new old h in
        let here : one (occurs_in k new) ≡ 0 = ap one (ap (λ k. occurs_in k new) (sym same) ∙ gone) in
        let there : one (occurs_in k old) ≡ 1 = ap one (ap (λ k. occurs_in k old) (sym same) ∙ was) in
        omega arith
    at false e there rest = omega (arith, one_if (occurs_in k new) (occurs_in k old) (h k), rest there)

-- a variable of a term is among its occurrences
pub occurs_found : (k : ℕ) (t : Term) → occurs k t ≡ true → list_any (nat_eq k) (occurrences t) ≡ true
occurs_found k =
    ind_terms (λ t. occurs k t ≡ true → list_any (nat_eq k) (occurrences t) ≡ true)
    (λ w h. ap (list_any (nat_eq k)) (fold-Var (List ℕ) occurrences_step w) ∙ or_left (nat_eq k w) false (sym (occurs-Var k w) ∙ h))
    (λ n h. absurd (true≢false (sym h ∙ fold-Int Bool (occurs_step k) n)))
    (λ a h. absurd (true≢false (sym h ∙ fold-Atom Bool (occurs_step k) a)))
    (λ f ts ih h. ap (list_any (nat_eq k)) (fold-Node (List ℕ) occurrences_step f ts) ∙ each ts ih (sym (occurs-Node k f ts) ∙ h))
  where
    each : (ts : List Term) → AllByRecursion (λ t. occurs k t ≡ true → list_any (nat_eq k) (occurrences t) ≡ true) ts → list_any (λ b. b) (map (occurs k) ts) ≡ true →
        list_any (nat_eq k) (flat_map (λ vs. vs) (map occurrences ts)) ≡ true
    each [] ih h = absurd (true≢false (sym h))
    each (t ∷ ts) ih h = list_any-append (nat_eq k) (occurrences t) _ ∙ ⊎_elim (λ p. or_left _ _ (ih.0 p)) (λ p. or_right (list_any (nat_eq k) (occurrences t)) _ (each ts ih.1 p)) (or_cases (occurs k t) _ h)

pub all_found : (k : ℕ) (es : List Equation) → occurs_in k es ≡ true → list_any (nat_eq k) (all_in es) ≡ true
all_found k [] h = absurd (true≢false (sym h))
all_found k (e ∷ es) h =
    list_any-append (nat_eq k) (occurrences e.left ++ occurrences e.right) _
    ∙ ⊎_elim (λ p. or_left _ _ (list_any-append (nat_eq k) (occurrences e.left) _ ∙ ⊎_elim (λ q. or_left _ _ (occurs_found k e.left q)) (λ q. or_right (list_any (nat_eq k) (occurrences e.left)) _ (occurs_found k e.right q)) (or_cases (occurs k e.left) _ p)))
    (λ p. or_right (list_any (nat_eq k) (occurrences e.left ++ occurrences e.right)) _ (all_found k es p))
    (or_cases (occurs_at k e) _ h)

pub gone_from_all : (v : ℕ) (t : Term) (es : List Equation) → occurs v t ≡ false → occurs_in v (replace_all v t es) ≡ false
gone_from_all v t [] h = refl
gone_from_all v t (e ∷ es) h =
    ap (λ b. (b || occurs v (replace v t e.right)) || occurs_in v (replace_all v t es)) (occurs-replace_self v t e.left h)
    ∙ ap (λ b. b || occurs_in v (replace_all v t es)) (occurs-replace_self v t e.right h)
    ∙ gone_from_all v t es h

pub within_all : (k v : ℕ) (t : Term) (es : List Equation) → occurs_in k (replace_all v t es) ≡ true → (occurs k t || occurs_in k es) ≡ true
within_all k v t [] h = absurd (true≢false (sym h))
within_all k v t (e ∷ es) h =
    regroup (occurs k t) (occurs k (replace v t e.left)) (occurs k (replace v t e.right)) _ (occurs k e.left) (occurs k e.right) _
    (occurs-replace k v t e.left) (occurs-replace k v t e.right) (within_all k v t es) h
  where
    regroup : (x a b c a' b' c' : Bool) → (a ≡ true → (a' || x) ≡ true) → (b ≡ true → (b' || x) ≡ true) → (c ≡ true → (x || c') ≡ true) →
        ((a || b) || c) ≡ true → (x || ((a' || b') || c')) ≡ true
    regroup true a b c a' b' c' p q r h = refl
    regroup false true b c true b' c' p q r h = refl
    regroup false true b c false b' c' p q r h = absurd (true≢false (sym (p refl)))
    regroup false false true c a' true c' p q r h = or_left _ _ (or_right a' _ refl)
    regroup false false true c a' false c' p q r h = absurd (true≢false (sym (q refl)))
    regroup false false false c a' b' c' p q r h = or_right (a' || b') _ (r h)
