-- The bits of sets: what is put in, the set of none and that of all, and what a loop over the names puts in.
use Rattle.std.proofs.Common.{◌≡◌, ◌⊎◌, inl, inr, ℕ, zero, suc, ◌<◌, ◌≤◌, ◌+◌, ◌*◌, ◌/◌, ◌%◌, Bool, true, false, ◌&&◌, ◌||◌, List, [], ◌∷◌, length, refl, ap, sym, ◌∙◌, arith, bit_or, w64, true≢false}
use Rattle.std.specs.Prelude.{slice_index_or, slice_set, ◌==◌, ◌^◌, nat_lt, not}
use Rattle.std.specs.List.{list_any}
use Rattle.std.proofs.lemmas.Bool.{cases_eq}
use Rattle.std.proofs.lemmas.Bool.Decides.{nat_tests}
use Rattle.std.proofs.Math.Bool.{or-true, or-false, and-true, and-false}
use Rattle.std.proofs.lemmas.List.{get_or-set_same, get_or-set_other}
use Rattle.std.proofs.lemmas.Nat.Bits.{bit_at_set_same, bit_at_set_other, bit_at-zero}
use Rattle.prog_data.specs.Values.{bit_at}
use Rattle.prog_data.specs.declared.grammars.Rule.{Rule}
use Rattle.prog_data.specs.declared.grammars.Grammar.{Grammar}
use Rattle.prog_data.specs.Membership.{rules_of}
use Rattle.prop_check.proofs.Absent.{past}

-- no set has a name from 512 on
pub beyond : (ws : List ℕ) (n : ℕ) → length ws ≡ 8 → 512 ≤ n → bit_at ws n ≡ false
beyond ws n l le = ap (λ w. (w / 2 ^ (n % 64)) % 2 == 1) (past 0 ws (n / 64) (omega (arith, l, le))) ∙ ap (λ b. b == 1) (bit_at-zero (n % 64))

-- one bit more

abbrev with_bit : List ℕ → ℕ → List ℕ
with_bit ws name = slice_set ws (name / 64) (bit_or (slice_index_or ws (name / 64) 0) (1 * 2 ^ (name % 64) % 18446744073709551616))

bits_put : (ws : List ℕ) (name : ℕ) → name < 512 → length ws ≡ 8 → (n : ℕ) → bit_at (with_bit ws name) n ≡ (bit_at ws n || n == name)
bits_put ws name lt l n = elim (cases_eq (n / 64) (name / 64)) as (λ _. bit_at (with_bit ws name) n ≡ (bit_at ws n || n == name)) [ inl e ↦ same e | inr d ↦ apart d ]
  where
    rest : ℕ
    rest = slice_index_or ws (name / 64) 0

    other : (n == name) ≡ false → (bit_at ws n || n == name) ≡ bit_at ws n
    other e = ap (λ b. bit_at ws n || b) e ∙ or-false (bit_at ws n)

    apart : ((n / 64 ≡ name / 64) → ⊥) → bit_at (with_bit ws name) n ≡ (bit_at ws n || n == name)
    apart d =
        ap (λ w. (w / 2 ^ (n % 64)) % 2 == 1) (get_or-set_other ws (name / 64) (n / 64) _ 0 d)
        ∙ sym (other (elim (cases_eq n name) as (λ _. (n == name) ≡ false) [ inl e ↦ absurd (d (ap (λ k. k / 64) e)) | inr f ↦ grind (arith, nat_tests) ]))

    word : n / 64 ≡ name / 64 → slice_index_or (with_bit ws name) (n / 64) 0 ≡ bit_or rest (1 * 2 ^ (name % 64) % 18446744073709551616)
    word e = ap (λ k. slice_index_or (with_bit ws name) k 0) e ∙ get_or-set_same ws (name / 64) _ 0 (omega (arith, lt, l))

    same : n / 64 ≡ name / 64 → bit_at (with_bit ws name) n ≡ (bit_at ws n || n == name)
    same e = elim (cases_eq (n % 64) (name % 64)) as (λ _. bit_at (with_bit ws name) n ≡ (bit_at ws n || n == name)) [ inl f ↦ one f | inr f ↦ none f ]
      where
        one : n % 64 ≡ name % 64 → bit_at (with_bit ws name) n ≡ (bit_at ws n || n == name)
        one f =
            ap (λ w. (w / 2 ^ (n % 64)) % 2 == 1) (word e) ∙ ap (λ k. (bit_or rest (1 * 2 ^ (name % 64) % 18446744073709551616) / 2 ^ k) % 2 == 1) f
            ∙ ap (λ b. b == 1) (bit_at_set_same w64 rest (name % 64) (omega arith))
            ∙ sym (ap (λ b. bit_at ws n || b) (is_name) ∙ or-true (bit_at ws n))
          where
            is_name : (n == name) ≡ true
            is_name = let q : n ≡ name = omega (arith, e, f) in grind (arith, nat_tests)

        none : ((n % 64 ≡ name % 64) → ⊥) → bit_at (with_bit ws name) n ≡ (bit_at ws n || n == name)
        none f =
            ap (λ w. (w / 2 ^ (n % 64)) % 2 == 1) (word e) ∙ ap (λ b. b == 1) (bit_at_set_other w64 rest (name % 64) (omega arith) (n % 64) f)
            ∙ sym (ap (λ k. (slice_index_or ws k 0 / 2 ^ (n % 64)) % 2 == 1) e)
            ∙ sym (other (elim (cases_eq n name) as (λ _. (n == name) ≡ false) [ inl q ↦ absurd (f (ap (λ k. k % 64) q)) | inr q ↦ grind (arith, nat_tests) ]))

-- a name below 512 is put in
pub put_near : (ws : List ℕ) (name : ℕ) → name < 512 → length ws ≡ 8 → (n : ℕ) → bit_at (with_bit ws name) n ≡ (bit_at ws n || (nat_lt n 512 && n == name))
put_near ws name lt l n = bits_put ws name lt l n ∙ ap (λ b. bit_at ws n || b) (below (n == name) refl)
  where
    below : (b : Bool) → (n == name) ≡ b → (n == name) ≡ (nat_lt n 512 && n == name)
    below true e = let q : n ≡ name = grind (arith, nat_tests) in let less : n < 512 = omega (arith, q, lt) in let is : nat_lt n 512 ≡ true = grind (arith, nat_tests) in ap (λ b. b && n == name) (sym is)
    below false e = e ∙ sym (and-false (nat_lt n 512)) ∙ ap (λ b. nat_lt n 512 && b) (sym e)

-- and no other
pub put_far : (ws : List ℕ) (name : ℕ) → 512 ≤ name → (n : ℕ) → bit_at ws n ≡ (bit_at ws n || (nat_lt n 512 && n == name))
put_far ws name le n = sym (or-false (bit_at ws n)) ∙ ap (λ b. bit_at ws n || b) (sym (none (nat_lt n 512) (n == name) refl refl))
  where
    none : (a b : Bool) → nat_lt n 512 ≡ a → (n == name) ≡ b → (a && b) ≡ false
    none true true e f = absurd (let lt : n < 512 = grind (arith, nat_tests) in let q : n ≡ name = grind (arith, nat_tests) in omega (arith, lt, q, le))
    none true false e f = refl
    none false b e f = refl

-- where it is wanted
pub put_wanted : (ws new : List ℕ) (name : ℕ) (b : Bool) → b ≡ true → ((n : ℕ) → bit_at new n ≡ (bit_at ws n || (nat_lt n 512 && n == name))) → (n : ℕ) → bit_at new n ≡ (bit_at ws n || (nat_lt n 512 && (n == name && b)))
put_wanted ws new name b e put n = put n ∙ ap (λ c. bit_at ws n || (nat_lt n 512 && c)) (sym (and-true (n == name)) ∙ ap (λ b. n == name && b) (sym e))

pub put_unwanted : (ws : List ℕ) (name : ℕ) (b : Bool) → b ≡ false → (n : ℕ) → bit_at ws n ≡ (bit_at ws n || (nat_lt n 512 && (n == name && b)))
put_unwanted ws name b e n =
    sym (or-false (bit_at ws n))
    ∙ ap (λ c. bit_at ws n || c) (sym (ap (λ b. nat_lt n 512 && (n == name && b)) e ∙ ap (λ c. nat_lt n 512 && c) (and-false (n == name)) ∙ and-false (nat_lt n 512)))

-- no bit is set in words that are 0
abbrev pub no_words : List ℕ
no_words = 0 ∷ 0 ∷ 0 ∷ 0 ∷ 0 ∷ 0 ∷ 0 ∷ 0 ∷ []

pub none_in : (n : ℕ) → bit_at no_words n ≡ false
none_in n = ap (λ w. (w / 2 ^ (n % 64)) % 2 == 1) (zero_word (n / 64)) ∙ ap (λ b. b == 1) (bit_at-zero (n % 64))
  where
    zero_word : (n : ℕ) → slice_index_or no_words n 0 ≡ 0
    zero_word zero = refl
    zero_word (suc zero) = refl
    zero_word (suc (suc zero)) = refl
    zero_word (suc (suc (suc zero))) = refl
    zero_word (suc (suc (suc (suc zero)))) = refl
    zero_word (suc (suc (suc (suc (suc zero))))) = refl
    zero_word (suc (suc (suc (suc (suc (suc zero)))))) = refl
    zero_word (suc (suc (suc (suc (suc (suc (suc zero))))))) = refl
    zero_word (suc (suc (suc (suc (suc (suc (suc (suc n)))))))) = refl

-- what is in a set is below 512
pub named : (ws : List ℕ) (n : ℕ) → length ws ≡ 8 → bit_at ws n ≡ true → n < 512
named ws n l e = by (nat_lt n 512) refl
  where
    by : (b : Bool) → nat_lt n 512 ≡ b → n < 512
    by true f = grind (arith, nat_tests)
    by false f = let le : 512 ≤ n = grind (arith, nat_tests) in absurd (true≢false (sym e ∙ beyond ws n l le))

-- how many of the first names are not in a set
abbrev pub one_where : Bool → ℕ
one_where true = 1
one_where false = 0

abbrev pub absent : (ℕ → Bool) → ℕ → ℕ
absent has zero = 0
absent has (suc k) = one_where (not (has k)) + absent has k

fewer_here : (a b : Bool) → (a ≡ true → b ≡ true) → one_where (not b) ≤ one_where (not a)
fewer_here true true h = omega arith
fewer_here true false h = absurd (true≢false (sym (h refl)))
fewer_here false true h = omega arith
fewer_here false false h = omega arith

no_more_absent : (old new : ℕ → Bool) → ((n : ℕ) → old n ≡ true → new n ≡ true) → (k : ℕ) → absent new k ≤ absent old k
no_more_absent old new kept zero = omega arith
no_more_absent old new kept (suc k) = omega (arith, fewer_here (old k) (new k) (kept k), no_more_absent old new kept k)

-- fewer are where one comes in and none is taken out
pub fewer_absent : (old new : ℕ → Bool) → ((n : ℕ) → old n ≡ true → new n ≡ true) → (n : ℕ) → new n ≡ true → old n ≡ false → (k : ℕ) → n < k → absent new k < absent old k
fewer_absent old new kept n e f zero lt = absurd (omega (arith, lt))
fewer_absent old new kept n e f (suc k) lt = by (cases_eq n k) (fewer_absent old new kept n e f k)
  where
    by : (n ≡ k) ⊎ (n ≡ k → ⊥) → (n < k → absent new k < absent old k) → absent new (suc k) < absent old (suc k)
    by (inl q) less =
        let now : one_where (not (new k)) ≡ 0 = ap (λ j. one_where (not (new j))) (sym q) ∙ ap (λ b. one_where (not b)) e in
        let was : one_where (not (old k)) ≡ 1 = ap (λ j. one_where (not (old j))) (sym q) ∙ ap (λ b. one_where (not b)) f in
        omega (arith, now, was, no_more_absent old new kept k)
    by (inr d) less = omega (arith, fewer_here (old k) (new k) (kept k), less (omega (arith, d, lt)))

-- a set that is one name has one
pub one_name : (names single : List ℕ) (name : ℕ) → names ≡ single → ((n : ℕ) → bit_at single n ≡ (bit_at no_words n || (nat_lt n 512 && n == name))) →
    (n m : ℕ) → bit_at names n ≡ true → bit_at names m ≡ true → n ≡ m
one_name names single name e put n m a b = is n a ∙ sym (is m b)
  where
    is : (n : ℕ) → bit_at names n ≡ true → n ≡ name
    is n a = by (nat_lt n 512) (n == name) refl (sym (ap (λ b. b || (nat_lt n 512 && n == name)) (none_in n)) ∙ sym (put n) ∙ ap (λ ws. bit_at ws n) (sym e) ∙ a)
      where
        by : (c d : Bool) → (n == name) ≡ d → (c && d) ≡ true → n ≡ name
        by true true f h = grind (arith, nat_tests)
        by true false f h = absurd (true≢false (sym h))
        by false d f h = absurd (true≢false (sym h))

-- the set has those of the first names that pass
abbrev pub Gathered : (ℕ → Bool) → ℕ → List ℕ → Type 0
Gathered test k ws = (n : ℕ) → bit_at ws n ≡ (nat_lt n k && test n)

pub gathered_none : (test : ℕ → Bool) → Gathered test 0 no_words
gathered_none test n = let none : nat_lt n 0 ≡ false = grind (arith, nat_tests) in none_in n ∙ sym (ap (λ b. b && test n) none)

pub gathered_more : (test : ℕ → Bool) (k : ℕ) (b : Bool) (old new : List ℕ) → Gathered test k old → b ≡ test k → k < 512 →
    ((n : ℕ) → bit_at new n ≡ (bit_at old n || (nat_lt n 512 && (n == k && b)))) → Gathered test (k + 1) new
gathered_more test k b old new had is few put n = put n ∙ ap (λ c. c || (nat_lt n 512 && (n == k && b))) (had n) ∙ at (nat_lt n k) (n == k) refl refl
  where
    at : (c d : Bool) → nat_lt n k ≡ c → (n == k) ≡ d → ((c && test n) || (nat_lt n 512 && (d && b))) ≡ (nat_lt n (k + 1) && test n)
    at true true e f = absurd (let lt : n < k = grind (arith, nat_tests) in let q : n ≡ k = grind (arith, nat_tests) in omega (arith, lt, q))
    at true false e f =
        let lt : n < k = grind (arith, nat_tests) in
        let less : n < k + 1 = omega (arith, lt) in
        let h : nat_lt n (k + 1) ≡ true = grind (arith, nat_tests) in
        ap (λ x. test n || x) (and-false (nat_lt n 512)) ∙ or-false (test n) ∙ ap (λ x. x && test n) (sym h)
    at false true e f =
        let q : n ≡ k = grind (arith, nat_tests) in
        let less : n < k + 1 = omega (arith, q) in
        let h : nat_lt n (k + 1) ≡ true = grind (arith, nat_tests) in
        let below : n < 512 = omega (arith, q, few) in
        let s : nat_lt n 512 ≡ true = grind (arith, nat_tests) in
        ap (λ x. x && b) s ∙ is ∙ ap test (sym q) ∙ ap (λ x. x && test n) (sym h)
    at false false e f =
        let q : (n ≡ k → ⊥) = grind (arith, nat_tests) in
        let le : k ≤ n = grind (arith, nat_tests) in
        let more : k + 1 ≤ n = omega (arith, q, le) in
        let h : nat_lt n (k + 1) ≡ false = grind (arith, nat_tests) in
        and-false (nat_lt n 512) ∙ ap (λ x. x && test n) (sym h)

pub gathered_all : (test : ℕ → Bool) (k : ℕ) (ws : List ℕ) → Gathered test k ws → ((n : ℕ) → k ≤ n → test n ≡ false) → (n : ℕ) → bit_at ws n ≡ test n
gathered_all test k ws had absent n = had n ∙ at (nat_lt n k) refl
  where
    at : (b : Bool) → nat_lt n k ≡ b → (b && test n) ≡ test n
    at true e = refl
    at false e = let le : k ≤ n = grind (arith, nat_tests) in sym (absent n le)

pub ended : (test : ℕ → Bool) (k : ℕ) (ws : List ℕ) (n : ℕ) → n < k → Gathered test k ws → bit_at ws n ≡ test n
ended test k ws n lt had = let below : nat_lt n k ≡ true = grind (arith, nat_tests) in had n ∙ ap (λ b. b && test n) below

-- no rule of a name that is not there holds
pub absent_name : (g : Grammar) (reach : ℕ → Bool) (holds : Rule → Bool) (n : ℕ) → length g.rules ≤ n → (reach n && list_any holds (rules_of g n)) ≡ false
absent_name g reach holds n le = ap (λ rs. reach n && list_any holds rs) (past [] g.rules n le) ∙ and-false (reach n)
