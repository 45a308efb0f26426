-- The bits of words: what is in both or in one of two sets, and where one set holds another or none of it.
use Rattle.std.proofs.Common.{◌≡◌, inl, inr, ℕ, zero, suc, ◌<◌, ◌≤◌, ◌+◌, ◌*◌, ◌/◌, ◌%◌, Bool, true, false, ◌&&◌, ◌||◌, List, [], ◌∷◌, length, refl, ap, sym, ◌∙◌, arith, bit_and, bit_or, min}
use Rattle.std.specs.Prelude.{slice_index_or, ◌==◌, ◌^◌}
use Rattle.std.specs.Int.Bits.{and_zero_r}
use Rattle.std.proofs.lemmas.Bool.{cases_eq}
use Rattle.std.proofs.lemmas.Bool.Decides.{nat_tests}
use Rattle.std.proofs.lemmas.Nat.{and_shr, or_shr, and_mod, or_mod}
use Rattle.std.proofs.lemmas.Nat.Bits.{bit_at-zero, bit_at_and, bit_at_above, same_from_bits}
use Rattle.prog_data.specs.Values.{bit_at}
use Rattle.type_domain.proofs.Lists.{and_left}

past : (xs : List ℕ) (i : ℕ) → length xs ≤ i → slice_index_or xs i 0 ≡ 0
past [] i le = refl
past (x ∷ xs) zero le = absurd (omega (arith, le))
past (x ∷ xs) (suc i) le = past xs i (omega (arith, le))

-- a value below 2 is 0 or 1
two_cases : (P : ℕ → Type 0) → P 0 → P 1 → (n : ℕ) → n < 2 → P n
two_cases P a b zero lt = a
two_cases P a b (suc zero) lt = b
two_cases P a b (suc (suc n)) lt = absurd (omega (arith, lt))

and_bits : (u v : ℕ) → u < 2 → v < 2 → (bit_and u v == 1) ≡ ((u == 1) && (v == 1))
and_bits u v lu lv = two_cases (λ u. (bit_and u v == 1) ≡ ((u == 1) && (v == 1)))
    (two_cases (λ v. (bit_and 0 v == 1) ≡ ((0 == 1) && (v == 1))) refl refl v lv)
    (two_cases (λ v. (bit_and 1 v == 1) ≡ ((1 == 1) && (v == 1))) refl refl v lv) u lu

or_bits : (u v : ℕ) → u < 2 → v < 2 → (bit_or u v == 1) ≡ ((u == 1) || (v == 1))
or_bits u v lu lv = two_cases (λ u. (bit_or u v == 1) ≡ ((u == 1) || (v == 1)))
    (two_cases (λ v. (bit_or 0 v == 1) ≡ ((0 == 1) || (v == 1))) refl refl v lv)
    (two_cases (λ v. (bit_or 1 v == 1) ≡ ((1 == 1) || (v == 1))) refl refl v lv) u lu

below_two : (n : ℕ) → n % 2 < 2
below_two n = omega arith

and_bit : (x y k : ℕ) → ((bit_and x y / 2 ^ k) % 2 == 1) ≡ (((x / 2 ^ k) % 2 == 1) && ((y / 2 ^ k) % 2 == 1))
and_bit x y k = ap (λ n. n % 2 == 1) (and_shr x y k) ∙ ap (λ n. n == 1) (and_mod (x / 2 ^ k) (y / 2 ^ k) 1) ∙ and_bits ((x / 2 ^ k) % 2) ((y / 2 ^ k) % 2) (below_two _) (below_two _)

or_bit : (x y k : ℕ) → ((bit_or x y / 2 ^ k) % 2 == 1) ≡ (((x / 2 ^ k) % 2 == 1) || ((y / 2 ^ k) % 2 == 1))
or_bit x y k = ap (λ n. n % 2 == 1) (or_shr x y k) ∙ ap (λ n. n == 1) (or_mod (x / 2 ^ k) (y / 2 ^ k) 1) ∙ or_bits ((x / 2 ^ k) % 2) ((y / 2 ^ k) % 2) (below_two _) (below_two _)

-- eight words
abbrev pub eight : (ℕ → ℕ → ℕ) → List ℕ → List ℕ → List ℕ
eight op a b =
    op (slice_index_or a 0 0) (slice_index_or b 0 0) ∷ op (slice_index_or a 1 0) (slice_index_or b 1 0) ∷ op (slice_index_or a 2 0) (slice_index_or b 2 0) ∷ op (slice_index_or a 3 0) (slice_index_or b 3 0)
    ∷ op (slice_index_or a 4 0) (slice_index_or b 4 0) ∷ op (slice_index_or a 5 0) (slice_index_or b 5 0) ∷ op (slice_index_or a 6 0) (slice_index_or b 6 0) ∷ op (slice_index_or a 7 0) (slice_index_or b 7 0) ∷ []

word_of : (op : ℕ → ℕ → ℕ) → op 0 0 ≡ 0 → (a b : List ℕ) → length a ≡ 8 → length b ≡ 8 → (i : ℕ) → slice_index_or (eight op a b) i 0 ≡ op (slice_index_or a i 0) (slice_index_or b i 0)
word_of op z a b la lb zero = refl
word_of op z a b la lb (suc zero) = refl
word_of op z a b la lb (suc (suc zero)) = refl
word_of op z a b la lb (suc (suc (suc zero))) = refl
word_of op z a b la lb (suc (suc (suc (suc zero)))) = refl
word_of op z a b la lb (suc (suc (suc (suc (suc zero))))) = refl
word_of op z a b la lb (suc (suc (suc (suc (suc (suc zero)))))) = refl
word_of op z a b la lb (suc (suc (suc (suc (suc (suc (suc zero))))))) = refl
word_of op z a b la lb (suc (suc (suc (suc (suc (suc (suc (suc i)))))))) =
    sym (ap (λ x. op x (slice_index_or b (suc (suc (suc (suc (suc (suc (suc (suc i)))))))) 0)) (past a (suc (suc (suc (suc (suc (suc (suc (suc i)))))))) (omega (arith, la))) ∙ ap (op 0) (past b (suc (suc (suc (suc (suc (suc (suc (suc i)))))))) (omega (arith, lb))) ∙ z)

pub bits_in_both : (a b : List ℕ) → length a ≡ 8 → length b ≡ 8 → bit_at (eight bit_and a b) ≡ (λ n. bit_at a n && bit_at b n)
bits_in_both a b la lb = λ i n. (ap (λ w. (w / 2 ^ (n % 64)) % 2 == 1) (word_of bit_and refl a b la lb (n / 64)) ∙ and_bit (slice_index_or a (n / 64) 0) (slice_index_or b (n / 64) 0) (n % 64)) i

pub bits_in_either : (a b : List ℕ) → length a ≡ 8 → length b ≡ 8 → bit_at (eight bit_or a b) ≡ (λ n. bit_at a n || bit_at b n)
bits_in_either a b la lb = λ i n. (ap (λ w. (w / 2 ^ (n % 64)) % 2 == 1) (word_of bit_or refl a b la lb (n / 64)) ∙ or_bit (slice_index_or a (n / 64) 0) (slice_index_or b (n / 64) 0) (n % 64)) i

-- sets where the first so many words of one hold those of the other
abbrev pub Covered : List ℕ → List ℕ → ℕ → Type 0
Covered a b k = (i : ℕ) → i < k → bit_and (slice_index_or a i 0) (slice_index_or b i 0) ≡ slice_index_or b i 0

abbrev pub HoldsAll : List ℕ → List ℕ → Type 0
HoldsAll a b = (n : ℕ) → bit_at b n ≡ true → bit_at a n ≡ true

pub covered_all : (a b : List ℕ) → length b ≡ 8 → Covered a b 8 → HoldsAll a b
covered_all a b l h n e = and_left (bit_at a n) (bit_at b n) (sym (and_bit (slice_index_or a (n / 64) 0) (slice_index_or b (n / 64) 0) (n % 64)) ∙ ap (λ w. (w / 2 ^ (n % 64)) % 2 == 1) (word (n / 64)) ∙ e)
  where
    word : (i : ℕ) → bit_and (slice_index_or a i 0) (slice_index_or b i 0) ≡ slice_index_or b i 0
    word i = elim (cases_eq (i / 8) 0) as (λ _. bit_and (slice_index_or a i 0) (slice_index_or b i 0) ≡ slice_index_or b i 0) [ inl q ↦ h i (omega (arith, q)) | inr d ↦ ap (bit_and (slice_index_or a i 0)) (past b i (omega (arith, l, d))) ∙ and_zero_r (slice_index_or a i 0) ∙ sym (past b i (omega (arith, l, d))) ]

-- where the bits of y stand in x, nothing of y is lost
whole_word : (x y : ℕ) → y < 18446744073709551616 → ((k : ℕ) → k < 64 → ((y / 2 ^ k) % 2 == 1) ≡ true → ((x / 2 ^ k) % 2 == 1) ≡ true) → bit_and x y ≡ y
whole_word x y lt h = same_from_bits (bit_and x y) y (λ k. bit_at_and x y k ∙ at k)
  where
    at : (k : ℕ) → min ((x / 2 ^ k) % 2) ((y / 2 ^ k) % 2) ≡ (y / 2 ^ k) % 2
    at k = elim (cases_eq (k / 64) 0) as (λ _. min ((x / 2 ^ k) % 2) ((y / 2 ^ k) % 2) ≡ (y / 2 ^ k) % 2) [ inl e ↦ below (omega (arith, e)) | inr d ↦ above (omega (arith, d)) ]
      where
        above : 64 ≤ k → min ((x / 2 ^ k) % 2) ((y / 2 ^ k) % 2) ≡ (y / 2 ^ k) % 2
        above le = let z : (y / 2 ^ k) % 2 ≡ 0 = bit_at_above y 64 k lt le in omega (arith, z)

        one : (y / 2 ^ k) % 2 ≡ 1 → k < 64 → min ((x / 2 ^ k) % 2) ((y / 2 ^ k) % 2) ≡ (y / 2 ^ k) % 2
        one e le = let o : ((x / 2 ^ k) % 2 == 1) ≡ true = h k le (grind (arith, nat_tests)) in let q : (x / 2 ^ k) % 2 ≡ 1 = grind (arith, nat_tests) in omega (arith, e, q)

        none : ((y / 2 ^ k) % 2 ≡ 1 → ⊥) → min ((x / 2 ^ k) % 2) ((y / 2 ^ k) % 2) ≡ (y / 2 ^ k) % 2
        none d = let z : (y / 2 ^ k) % 2 ≡ 0 = omega (arith, d, below_two (y / 2 ^ k)) in omega (arith, z)

        below : k < 64 → min ((x / 2 ^ k) % 2) ((y / 2 ^ k) % 2) ≡ (y / 2 ^ k) % 2
        below le = elim (cases_eq ((y / 2 ^ k) % 2) 1) as (λ _. min ((x / 2 ^ k) % 2) ((y / 2 ^ k) % 2) ≡ (y / 2 ^ k) % 2) [ inl e ↦ one e le | inr d ↦ none d ]

pub not_covered : (a b : List ℕ) (i : ℕ) → slice_index_or b i 0 < 18446744073709551616 → (bit_and (slice_index_or a i 0) (slice_index_or b i 0) ≡ slice_index_or b i 0 → ⊥) → HoldsAll a b → ⊥
not_covered a b i lt d h = d (whole_word (slice_index_or a i 0) (slice_index_or b i 0) lt (λ k le e.
    let q : (i * 64 + k) / 64 ≡ i = omega (arith, le) in
    let r : (i * 64 + k) % 64 ≡ k = omega (arith, le) in
    let there : bit_at b (i * 64 + k) ≡ ((slice_index_or b i 0 / 2 ^ k) % 2 == 1) = ap (λ j. (slice_index_or b j 0 / 2 ^ ((i * 64 + k) % 64)) % 2 == 1) q ∙ ap (λ j. (slice_index_or b i 0 / 2 ^ j) % 2 == 1) r in
    let here : bit_at a (i * 64 + k) ≡ ((slice_index_or a i 0 / 2 ^ k) % 2 == 1) = ap (λ j. (slice_index_or a j 0 / 2 ^ ((i * 64 + k) % 64)) % 2 == 1) q ∙ ap (λ j. (slice_index_or a i 0 / 2 ^ j) % 2 == 1) r in
    sym here ∙ h (i * 64 + k) (there ∙ e)))

-- sets where the first so many words of one have no bit of the other
abbrev pub Apart : List ℕ → List ℕ → ℕ → Type 0
Apart a b k = (i : ℕ) → i < k → bit_and (slice_index_or a i 0) (slice_index_or b i 0) ≡ 0

abbrev pub HoldsNone : List ℕ → List ℕ → Type 0
HoldsNone a b = (n : ℕ) → bit_at b n ≡ true → bit_at a n ≡ false

pub apart_all : (a b : List ℕ) → length b ≡ 8 → Apart a b 8 → HoldsNone a b
apart_all a b l h n e = first (bit_at a n) (bit_at b n) e (sym (and_bit (slice_index_or a (n / 64) 0) (slice_index_or b (n / 64) 0) (n % 64)) ∙ ap (λ w. (w / 2 ^ (n % 64)) % 2 == 1) (word (n / 64)) ∙ ap (λ k. k == 1) (bit_at-zero (n % 64)))
  where
    first : (x y : Bool) → y ≡ true → (x && y) ≡ false → x ≡ false
    first true true e f = f
    first true false e f = sym e
    first false y e f = refl

    word : (i : ℕ) → bit_and (slice_index_or a i 0) (slice_index_or b i 0) ≡ 0
    word i = elim (cases_eq (i / 8) 0) as (λ _. bit_and (slice_index_or a i 0) (slice_index_or b i 0) ≡ 0) [ inl q ↦ h i (omega (arith, q)) | inr d ↦ ap (bit_and (slice_index_or a i 0)) (past b i (omega (arith, l, d))) ∙ and_zero_r (slice_index_or a i 0) ]

-- where no bit of y stands in x, nothing of y is there
no_word : (x y : ℕ) → y < 18446744073709551616 → ((k : ℕ) → k < 64 → ((y / 2 ^ k) % 2 == 1) ≡ true → ((x / 2 ^ k) % 2 == 1) ≡ false) → bit_and x y ≡ 0
no_word x y lt h = same_from_bits (bit_and x y) 0 (λ k. bit_at_and x y k ∙ at k ∙ sym (bit_at-zero k))
  where
    at : (k : ℕ) → min ((x / 2 ^ k) % 2) ((y / 2 ^ k) % 2) ≡ 0
    at k = elim (cases_eq ((y / 2 ^ k) % 2) 1) as (λ _. min ((x / 2 ^ k) % 2) ((y / 2 ^ k) % 2) ≡ 0) [ inl e ↦ one e | inr d ↦ none d ]
      where
        none : ((y / 2 ^ k) % 2 ≡ 1 → ⊥) → min ((x / 2 ^ k) % 2) ((y / 2 ^ k) % 2) ≡ 0
        none d = let z : (y / 2 ^ k) % 2 ≡ 0 = omega (arith, d, below_two (y / 2 ^ k)) in omega (arith, z)

        below : (y / 2 ^ k) % 2 ≡ 1 → k < 64 → min ((x / 2 ^ k) % 2) ((y / 2 ^ k) % 2) ≡ 0
        below e le = let o : ((x / 2 ^ k) % 2 == 1) ≡ false = h k le (grind (arith, nat_tests)) in let q : ((x / 2 ^ k) % 2 ≡ 1 → ⊥) = grind (arith, nat_tests) in let z : (x / 2 ^ k) % 2 ≡ 0 = omega (arith, q, below_two (x / 2 ^ k)) in omega (arith, z)

        above : (y / 2 ^ k) % 2 ≡ 1 → 64 ≤ k → min ((x / 2 ^ k) % 2) ((y / 2 ^ k) % 2) ≡ 0
        above e le = let z : (y / 2 ^ k) % 2 ≡ 0 = bit_at_above y 64 k lt le in omega (arith, z, e)

        one : (y / 2 ^ k) % 2 ≡ 1 → min ((x / 2 ^ k) % 2) ((y / 2 ^ k) % 2) ≡ 0
        one e = elim (cases_eq (k / 64) 0) as (λ _. min ((x / 2 ^ k) % 2) ((y / 2 ^ k) % 2) ≡ 0) [ inl q ↦ below e (omega (arith, q)) | inr d ↦ above e (omega (arith, d)) ]

pub not_apart : (a b : List ℕ) (i : ℕ) → slice_index_or b i 0 < 18446744073709551616 → (bit_and (slice_index_or a i 0) (slice_index_or b i 0) ≡ 0 → ⊥) → HoldsNone a b → ⊥
not_apart a b i lt d h = d (no_word (slice_index_or a i 0) (slice_index_or b i 0) lt (λ k le e.
    let q : (i * 64 + k) / 64 ≡ i = omega (arith, le) in
    let r : (i * 64 + k) % 64 ≡ k = omega (arith, le) in
    let there : bit_at b (i * 64 + k) ≡ ((slice_index_or b i 0 / 2 ^ k) % 2 == 1) = ap (λ j. (slice_index_or b j 0 / 2 ^ ((i * 64 + k) % 64)) % 2 == 1) q ∙ ap (λ j. (slice_index_or b i 0 / 2 ^ j) % 2 == 1) r in
    let here : bit_at a (i * 64 + k) ≡ ((slice_index_or a i 0 / 2 ^ k) % 2 == 1) = ap (λ j. (slice_index_or a j 0 / 2 ^ ((i * 64 + k) % 64)) % 2 == 1) q ∙ ap (λ j. (slice_index_or a i 0 / 2 ^ j) % 2 == 1) r in
    sym here ∙ h (i * 64 + k) (there ∙ e)))
