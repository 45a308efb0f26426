-- The sets of the names that a name is below, and that it does not meet, in the order that values are computed with.
use Rattle.std.proofs.Common.{◌≡◌, ◌↔◌, inl, inr, ℕ, zero, suc, ◌<◌, ◌≤◌, ◌+◌, Bool, true, false, ◌&&◌, ◌||◌, length, refl, ap, sym, ◌∙◌, subst, arith, true≢false}
use Rattle.std.proofs.lemmas.Bool.{and_from, cases_eq}
use Rattle.std.proofs.lemmas.Bool.Decides.{nat_tests}
use Rattle.std.proofs.Math.Bool.{and-false}
use Rattle.std.specs.Cmp.{both_ways}
use Rattle.std.specs.Prelude.{nat_lt, not}
use Rattle.std.specs.List.{list_all}
use Rattle.prog_data.specs.declared.grammars.Grammar.{Grammar}
use Rattle.name_order.specs.Relations.{are_names, names_from, Below, below, Meets, meets, order, IsOrder}
use Rattle.name_order.specs.Held.{apart}
use Rattle.type_domain.specs.Values.{meets_all}
use Rattle.type_domain.proofs.Lists.{and_left, and_right}

pub below_row : (g : Grammar) → IsOrder g (order g) → ((n m : ℕ) → (below g n m ≡ true) ↔ Below g n m) → (n : ℕ) → below g n ≡ (order g).below n
below_row g is law n = λ i m. both_ways _ _ (λ e. (is.below n m).1 ((law n m).0 e)) (λ e. (law n m).1 ((is.below n m).0 e)) i

-- a test of each of so many names

all_names : (test : ℕ → Bool) (first k : ℕ) → ((m : ℕ) → m < first + k → test m ≡ true) → list_all test (names_from first k) ≡ true
all_names test first zero h = refl
all_names test first (suc k) h = and_from (test first) (list_all test (names_from (first + 1) k)) (h first (omega arith)) (all_names test (first + 1) k (λ m lt. h m (omega (arith, lt))))

each_name : (test : ℕ → Bool) (first k m : ℕ) → list_all test (names_from first k) ≡ true → first ≤ m → m < first + k → test m ≡ true
each_name test first zero m e le lt = absurd (omega (arith, le, lt))
each_name test first (suc k) m e le lt = elim (cases_eq first m) as (λ _. test m ≡ true) [ inl q ↦ subst (λ j. test j ≡ true) q (and_left (test first) _ e) | inr d ↦ each_name test (first + 1) k m (and_right (test first) _ e) (omega (arith, le, d)) (omega (arith, lt)) ]

met_if : (a b : Bool) → a ≡ true → (a && not b) ≡ false → b ≡ true
met_if true true x f = refl
met_if true false x f = absurd (true≢false f)
met_if false b x f = absurd (true≢false (sym x))

if_so : (a b : Bool) → (a ≡ true → b ≡ true) → (not a || b) ≡ true
if_so true b h = h refl
if_so false b h = refl

then_so : (a b : Bool) → a ≡ true → (not a || b) ≡ true → b ≡ true
then_so true b x f = f
then_so false b x f = absurd (true≢false (sym x))

module _ (g : Grammar) (is : IsOrder g (order g)) (law : (n m : ℕ) → (meets g n m ≡ true) ↔ Meets g n m) (n : ℕ) (lt : n < length g.rules) (p row : ℕ → Bool) (e : row ≡ apart g n) where
  pub all_met : ((m : ℕ) → p m ≡ true → row m ≡ false) → meets_all (order g) p n ≡ true
  all_met h = all_names (λ m. not (p m) || (order g).meets n m) 0 (length g.rules) (λ m l. if_so (p m) ((order g).meets n m) (λ f. (is.meets n m).1 ((law n m).0 (met_if (are_names (length g.rules) (n, m)) (meets g n m) (names m (omega (arith, l))) (sym (ap (λ r. r m) e) ∙ h m f)))))
    where
      names : (m : ℕ) → m < length g.rules → are_names (length g.rules) (n, m) ≡ true
      names m l = and_from (nat_lt n (length g.rules)) (nat_lt m (length g.rules)) (grind (arith, nat_tests)) (grind (arith, nat_tests))

  pub none_apart : meets_all (order g) p n ≡ true → (m : ℕ) → p m ≡ true → row m ≡ false
  none_apart h m f = ap (λ r. r m) e ∙ either (nat_lt m (length g.rules)) refl
    where
      either : (b : Bool) → nat_lt m (length g.rules) ≡ b → apart g n m ≡ false
      either false x = ap (λ b. (nat_lt n (length g.rules) && b) && not (meets g n m)) x ∙ ap (λ b. b && not (meets g n m)) (and-false (nat_lt n (length g.rules)))
      either true x =
          let l : m < length g.rules = grind (arith, nat_tests) in
          let met : meets g n m ≡ true = (law n m).1 ((is.meets n m).0 (then_so (p m) ((order g).meets n m) f (each_name (λ m. not (p m) || (order g).meets n m) 0 (length g.rules) m h (omega arith) (omega (arith, l))))) in
          ap (λ b. are_names (length g.rules) (n, m) && not b) met ∙ and-false (are_names (length g.rules) (n, m))
