-- Sets that are filled name by name: those of the first names that pass.
use Rattle.std.proofs.Common.{◌≡◌, ℕ, zero, suc, ◌<◌, ◌≤◌, ◌+◌, Bool, true, false, ◌&&◌, ◌||◌, List, [], ◌∷◌, refl, ap, sym, ◌∙◌, arith}
use Rattle.std.proofs.lemmas.Bool.Decides.{nat_tests}
use Rattle.std.proofs.Math.Bool.{and-true, and-false, or-false}
use Rattle.std.proofs.lemmas.Nat.Bits.{bit_at-zero}
use Rattle.std.specs.Prelude.{nat_lt, ◌==◌, ◌/◌, ◌%◌, ◌^◌, slice_index_or}
use Rattle.prog_data.specs.Values.{bit_at}

-- the set has those of the first names that pass
abbrev pub Gathered : (ℕ → Bool) → ℕ → List ℕ → Type 0
Gathered test k words = bit_at words ≡ (λ n. nat_lt n k && test n)

pub gathered_more : (test : ℕ → Bool) (k : ℕ) (b : Bool) (old new : List ℕ) → Gathered test k old → b ≡ test k → bit_at new ≡ (λ n. bit_at old n || (n == k && b)) → Gathered test (k + 1) new
gathered_more test k b old new had is put = put ∙ (λ i n. at n i)
  where
    either : (n : ℕ) (c d e : Bool) → nat_lt n k ≡ c → (n == k) ≡ d → nat_lt n (k + 1) ≡ e → ((c && test n) || (d && b)) ≡ (e && test n)
    either n true true e f h j = absurd (let lt : n < k = grind (arith, nat_tests) in let q : n ≡ k = grind (arith, nat_tests) in omega (arith, lt, q))
    either n true false true f h j = or-false (test n)
    either n true false false f h j = absurd (let lt : n < k = grind (arith, nat_tests) in let le : k + 1 ≤ n = grind (arith, nat_tests) in omega (arith, lt, le))
    either n false true true f h j = let q : n ≡ k = grind (arith, nat_tests) in is ∙ ap test (sym q)
    either n false true false f h j = absurd (let q : n ≡ k = grind (arith, nat_tests) in let le : k + 1 ≤ n = grind (arith, nat_tests) in omega (arith, q, le))
    either n false false true f h j = absurd (let q : (n ≡ k → ⊥) = grind (arith, nat_tests) in let le : k ≤ n = grind (arith, nat_tests) in let lt : n < k + 1 = grind (arith, nat_tests) in q (omega (arith, le, lt)))
    either n false false false f h j = refl

    at : (n : ℕ) → (bit_at old n || (n == k && b)) ≡ (nat_lt n (k + 1) && test n)
    at n = ap (λ f. f n || (n == k && b)) had ∙ either n (nat_lt n k) (n == k) (nat_lt n (k + 1)) refl refl refl

pub gathered_all : (test : ℕ → Bool) (k : ℕ) (words : List ℕ) → Gathered test k words → ((n : ℕ) → test n ≡ true → n < k) → bit_at words ≡ test
gathered_all test k words had within = had ∙ (λ i n. at n (test n) refl i)
  where
    at : (n : ℕ) (b : Bool) → test n ≡ b → (nat_lt n k && test n) ≡ test n
    at n true e = let lt = within n e in let is : nat_lt n k ≡ true = grind (arith, nat_tests) in ap (λ b. b && test n) is
    at n false e = ap (λ b. nat_lt n k && b) e ∙ and-false (nat_lt n k) ∙ sym e

put_here : (old : List ℕ) (name : ℕ) (n : ℕ) → (bit_at old n || n == name) ≡ (bit_at old n || (n == name && true))
put_here old name n = ap (λ b. bit_at old n || b) (sym (and-true (n == name)))

-- what is put in where a test says so
pub put_where : (old new : List ℕ) (name : ℕ) (b : Bool) → b ≡ true → bit_at new ≡ (λ n. bit_at old n || n == name) → bit_at new ≡ (λ n. bit_at old n || (n == name && b))
put_where old new name b is e = e ∙ (λ i n. (put_here old name n ∙ ap (λ c. bit_at old n || (n == name && c)) (sym is)) i)

abbrev no_words : List ℕ
no_words = 0 ∷ 0 ∷ 0 ∷ 0 ∷ 0 ∷ 0 ∷ 0 ∷ 0 ∷ []

zero_word : (n : ℕ) → slice_index_or no_words n 0 ≡ 0
zero_word zero = refl
zero_word (suc zero) = refl
zero_word (suc (suc zero)) = refl
zero_word (suc (suc (suc zero))) = refl
zero_word (suc (suc (suc (suc zero)))) = refl
zero_word (suc (suc (suc (suc (suc zero))))) = refl
zero_word (suc (suc (suc (suc (suc (suc zero)))))) = refl
zero_word (suc (suc (suc (suc (suc (suc (suc zero))))))) = refl
zero_word (suc (suc (suc (suc (suc (suc (suc (suc n)))))))) = refl

-- words that are 0 have no more bits than no words
pub empty_set : bit_at no_words ≡ bit_at []
empty_set = λ i n. (ap (λ w. (w / 2 ^ (n % 64)) % 2 == 1) (zero_word (n / 64))) i

-- no bit is set in words that are 0
pub gathered_none : (test : ℕ → Bool) → Gathered test 0 no_words
gathered_none test = λ i n. at n i
  where
    at : (n : ℕ) → bit_at no_words n ≡ (nat_lt n 0 && test n)
    at n = ap (λ w. (w / 2 ^ (n % 64)) % 2 == 1) (zero_word (n / 64)) ∙ ap (λ b. b == 1) (bit_at-zero (n % 64)) ∙ sym (ap (λ b. b && test n) none)
      where
        none : nat_lt n 0 ≡ false
        none = grind (arith, nat_tests)
