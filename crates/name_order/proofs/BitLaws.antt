-- A pair is in a table where its bit is 1, and the other bits stay when it is put there or taken out.
use Rattle.std.proofs.Common.{◌≡◌, ℕ, suc, ◌<◌, ◌+◌, ◌*◌, ◌≤◌, ◌/◌, ◌%◌, Bool, true, false, ◌&&◌, ◌||◌, List, length, refl, ap, sym, ◌∙◌, arith, bit_and, bit_or, w64, true≢false}
use Rattle.std.proofs.lemmas.Bool.Decides.{nat_tests}
use Rattle.std.proofs.lemmas.Nat.Bits.{shr_and_one, bit_at_set_same, bit_at_set_other, bit_at_clear_same, bit_at_clear_other}
use Rattle.std.proofs.lemmas.List.{get_or-set_same, get_or-set_other}
use Rattle.std.proofs.Math.Nat.{mul-le-mul_right}
use Rattle.std.specs.Int.{bit_not}
use Rattle.std.specs.Prelude.{slice_index_or, slice_set, cond, not, nat_lt, nat_eq, ◌==◌, ◌^◌}
use Rattle.prog_data.specs.Values.{bit_at}
use Rattle.name_order.specs.Relations.{Pair, same_pair, are_names}
use Rattle.name_order.specs.Tables.{Grid, has, lacks}
use Rattle.name_order.proofs.FixpointLaws.{and_left, and_right, and_both}
use Rattle.name_order.proofs.RelationLaws.{pair_same}

-- the place of a pair's bit
abbrev place : ℕ → Pair → ℕ
place size p = p.0 * size + p.1

-- the test that the code makes
pub has_bit : (t : Grid) (n m w : ℕ) → n < t.size → m < t.size → w ≡ slice_index_or t.words ((n * t.size + m) / 64) 0 → (bit_and (w / 2 ^ ((n * t.size + m) % 64)) 1 == 1) ≡ has t (n, m)
has_bit t n m w l k e =
    ap (λ b. b == 1) (shr_and_one w ((n * t.size + m) % 64)) ∙ ap (λ x. x / 2 ^ ((n * t.size + m) % 64) % 2 == 1) e ∙ named (are_names t.size (n, m)) (and_both (nat_lt n t.size) (nat_lt m t.size) (grind (arith, nat_tests)) (grind (arith, nat_tests)))
  where
    named : (b : Bool) → b ≡ true → bit_at t.words (n * t.size + m) ≡ (b && bit_at t.words (n * t.size + m))
    named true e = refl
    named false e = absurd (true≢false (sym e))

-- what is there is a pair of names
pub has_inside : (t : Grid) (p : Pair) → has t p ≡ true → (p.0 < t.size) × (p.1 < t.size)
has_inside t p e =
    let names : are_names t.size p ≡ true = and_left _ _ e in
    let first : nat_lt p.0 t.size ≡ true = and_left _ _ names in
    let second : nat_lt p.1 t.size ≡ true = and_right (nat_lt p.0 t.size) _ names in
    (grind (arith, nat_tests), grind (arith, nat_tests))

-- what is lacking is a pair of names
pub lacks_inside : (t : Grid) (n m : ℕ) → lacks t (n, m) ≡ true → m < t.size
lacks_inside t n m e =
    let names : are_names t.size (n, m) ≡ true = and_left _ _ e in
    let second : nat_lt m t.size ≡ true = and_right (nat_lt n t.size) _ names in
    grind (arith, nat_tests)

-- two pairs of names with one place are the same
earlier_row : (size n m k : ℕ) → m < size → n < k → n * size + m < k * size
earlier_row size n m k l h = let le : suc n * size ≤ k * size = mul-le-mul_right size h in omega (arith, le, l)

one_place : (size : ℕ) (p q : Pair) → are_names size p ≡ true → are_names size q ≡ true → place size p ≡ place size q → same_pair p q ≡ true
one_place size p q np nq e = rows (nat_lt p.0 q.0) (nat_lt q.0 p.0) refl refl
  where
    rows : (b c : Bool) → nat_lt p.0 q.0 ≡ b → nat_lt q.0 p.0 ≡ c → same_pair p q ≡ true
    rows true c x y = let lt = earlier_row size p.0 p.1 q.0 (grind (arith, nat_tests, and_right (nat_lt p.0 size) _ np)) (grind (arith, nat_tests)) in absurd (omega (arith, lt, e))
    rows false true x y = let lt = earlier_row size q.0 q.1 p.0 (grind (arith, nat_tests, and_right (nat_lt q.0 size) _ nq)) (grind (arith, nat_tests)) in absurd (omega (arith, lt, e))
    rows false false x y =
        let same : p.0 ≡ q.0 = grind (arith, nat_tests) in
        let behind : p.1 ≡ q.1 = let rows = ap (λ k. k * size) same in omega (arith, e, rows) in
        and_both (p.0 == q.0) (p.1 == q.1) (grind (arith, nat_tests)) (grind (arith, nat_tests))

-- a bit of words of which one is changed, and of it one bit

module _ (words : List ℕ) (at word : ℕ) (within : at / 64 < length words) (kept : (i : ℕ) → i < 64 → (i ≡ at % 64 → ⊥) → word / 2 ^ i % 2 ≡ slice_index_or words (at / 64) 0 / 2 ^ i % 2) where
  abbrev changed : List ℕ
  changed = slice_set words (at / 64) word

  same_bit : bit_at changed at ≡ (word / 2 ^ (at % 64) % 2 == 1)
  same_bit = ap (λ w. w / 2 ^ (at % 64) % 2 == 1) (get_or-set_same words (at / 64) _ 0 within)

  other_bit : (i : ℕ) → (i ≡ at → ⊥) → bit_at changed i ≡ bit_at words i
  other_bit i h = either (nat_eq (i / 64) (at / 64)) refl
    where
      low : i % 64 < 64
      low = omega arith

      either : (b : Bool) → nat_eq (i / 64) (at / 64) ≡ b → bit_at changed i ≡ bit_at words i
      either true e =
          let here : i / 64 ≡ at / 64 = grind (arith, nat_tests) in
          ap (λ k. slice_index_or changed k 0 / 2 ^ (i % 64) % 2 == 1) here
          ∙ ap (λ w. w / 2 ^ (i % 64) % 2 == 1) (get_or-set_same words (at / 64) _ 0 within)
          ∙ ap (λ b. b == 1) (kept (i % 64) low (λ s. h (omega (arith, here, s))))
          ∙ ap (λ k. slice_index_or words k 0 / 2 ^ (i % 64) % 2 == 1) (sym here)
      either false e = ap (λ w. w / 2 ^ (i % 64) % 2 == 1) (get_or-set_other words (at / 64) (i / 64) _ 0 (λ s. grind (arith, nat_tests, s, e)))

low_bit : (at : ℕ) → at % 64 < 64
low_bit at = omega arith

-- the bit of one pair is changed
has_changed : (t : Grid) (n m word : ℕ) (words : List ℕ) → n < t.size → m < t.size → (n * t.size + m) / 64 < length t.words →
    ((i : ℕ) → i < 64 → (i ≡ (n * t.size + m) % 64 → ⊥) → word / 2 ^ i % 2 ≡ slice_index_or t.words ((n * t.size + m) / 64) 0 / 2 ^ i % 2) →
    words ≡ slice_set t.words ((n * t.size + m) / 64) word →
    (p : Pair) → has (record { size = t.size; words = words }) p ≡ cond (same_pair p (n, m)) (word / 2 ^ ((n * t.size + m) % 64) % 2 == 1) (has t p)
has_changed t n m word words l k within kept f p = either (are_names t.size p) (same_pair p (n, m)) refl refl
  where
    at : ℕ
    at = n * t.size + m

    names : are_names t.size (n, m) ≡ true
    names = and_both (nat_lt n t.size) (nat_lt m t.size) (grind (arith, nat_tests)) (grind (arith, nat_tests))

    bit : bit_at words (place t.size p) ≡ bit_at (changed t.words at word within kept) (place t.size p)
    bit = ap (λ ws. bit_at ws (place t.size p)) f

    either : (b s : Bool) → are_names t.size p ≡ b → same_pair p (n, m) ≡ s → (b && bit_at words (place t.size p)) ≡ cond s (word / 2 ^ (at % 64) % 2 == 1) (b && bit_at t.words (place t.size p))
    either false false x y = refl
    either false true x y = absurd (true≢false (sym names ∙ ap (are_names t.size) (sym (pair_same p (n, m) y)) ∙ x))
    either true true x y = bit ∙ ap (λ q. bit_at (changed t.words at word within kept) (place t.size q)) (pair_same p (n, m) y) ∙ same_bit t.words at word within kept
    either true false x y = bit ∙ other_bit t.words at word within kept (place t.size p) (λ same. true≢false (sym (one_place t.size p (n, m) x names same) ∙ y))

-- a pair is put into a table
pub has_added : (t : Grid) (n m w : ℕ) (words : List ℕ) → n < t.size → m < t.size → (n * t.size + m) / 64 < length t.words → w ≡ slice_index_or t.words ((n * t.size + m) / 64) 0 →
    words ≡ slice_set t.words ((n * t.size + m) / 64) (bit_or w (1 * 2 ^ ((n * t.size + m) % 64) % 2 ^ 64)) →
    (p : Pair) → has (record { size = t.size; words = words }) p ≡ (same_pair p (n, m) || has t p)
has_added t n m w words l k within e f p =
    has_changed t n m _ words l k within (λ i lt h. bit_at_set_other w64 w ((n * t.size + m) % 64) (low_bit (n * t.size + m)) i h ∙ ap (λ v. v / 2 ^ i % 2) e) f p
    ∙ either (same_pair p (n, m)) _ (ap (λ b. b == 1) (bit_at_set_same w64 w ((n * t.size + m) % 64) (low_bit (n * t.size + m))))
  where
    either : (s b : Bool) → b ≡ true → cond s b (has t p) ≡ (s || has t p)
    either true b h = h
    either false b h = refl

-- and taken out
pub has_removed : (t : Grid) (n m w : ℕ) (words : List ℕ) → n < t.size → m < t.size → (n * t.size + m) / 64 < length t.words → w ≡ slice_index_or t.words ((n * t.size + m) / 64) 0 →
    words ≡ slice_set t.words ((n * t.size + m) / 64) (bit_and w (bit_not w64 (1 * 2 ^ ((n * t.size + m) % 64) % 2 ^ 64))) →
    (p : Pair) → has (record { size = t.size; words = words }) p ≡ (not (same_pair p (n, m)) && has t p)
has_removed t n m w words l k within e f p =
    has_changed t n m _ words l k within (λ i lt h. bit_at_clear_other w64 w ((n * t.size + m) % 64) (low_bit (n * t.size + m)) i lt h ∙ ap (λ v. v / 2 ^ i % 2) e) f p
    ∙ either (same_pair p (n, m)) _ (ap (λ b. b == 1) (bit_at_clear_same w64 w ((n * t.size + m) % 64) (low_bit (n * t.size + m))))
  where
    either : (s b : Bool) → b ≡ false → cond s b (has t p) ≡ (not s && has t p)
    either true b h = h
    either false b h = refl

-- a pair that is not there is taken out
pub absent_removed : (t : Grid) (q : Pair) → has t q ≡ false → (p : Pair) → has t p ≡ (not (same_pair p q) && has t p)
absent_removed t q e p = either (same_pair p q) refl
  where
    either : (s : Bool) → same_pair p q ≡ s → has t p ≡ (not s && has t p)
    either true h = ap (has t) (pair_same p q h) ∙ e
    either false h = refl

-- the word of a pair's bit is there
pub word_within : (size n m words : ℕ) → n < size → m < size → size * size ≤ 64 * words → (n * size + m) / 64 < words
word_within size n m words l k le = let lt = earlier_row size n m size k l in omega (arith, lt, le)
