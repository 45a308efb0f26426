-- Sets of names as words: a name is put in, and a set for each name.
use Rattle.std.proofs.Common.{◌≡◌, inl, inr, ℕ, zero, suc, ◌<◌, ◌+◌, ◌*◌, ◌/◌, ◌%◌, true, false, ◌||◌, List, [], ◌∷◌, ◌++◌, length, refl, ap, sym, ◌∙◌, arith, bit_or, w64}
use Rattle.std.specs.Prelude.{slice_index_or, slice_set, ◌==◌, ◌^◌}
use Rattle.std.proofs.lemmas.Bool.{cases_eq}
use Rattle.std.proofs.lemmas.Bool.Decides.{nat_tests}
use Rattle.std.proofs.Math.Bool.{or-true, or-false}
use Rattle.std.proofs.lemmas.List.{get_or-set_same, get_or-set_other}
use Rattle.std.proofs.lemmas.Nat.Bits.{bit_at_set_same, bit_at_set_other}
use Rattle.prog_data.specs.Values.{bit_at}
use Rattle.name_order.specs.Tables.{Grid, lacks}

-- one bit more

abbrev with_bit : List ℕ → ℕ → List ℕ
with_bit ws name = slice_set ws (name / 64) (bit_or (slice_index_or ws (name / 64) 0) (1 * 2 ^ (name % 64) % 18446744073709551616))

bits_put_at : (ws : List ℕ) (name : ℕ) → name < 512 → length ws ≡ 8 → (n : ℕ) → bit_at (with_bit ws name) n ≡ (bit_at ws n || n == name)
bits_put_at ws name lt l n = elim (cases_eq (n / 64) (name / 64)) as (λ _. bit_at (with_bit ws name) n ≡ (bit_at ws n || n == name)) [ inl e ↦ same e | inr d ↦ apart d ]
  where
    rest : ℕ
    rest = slice_index_or ws (name / 64) 0

    other : (n == name) ≡ false → (bit_at ws n || n == name) ≡ bit_at ws n
    other e = ap (λ b. bit_at ws n || b) e ∙ or-false (bit_at ws n)

    apart : ((n / 64 ≡ name / 64) → ⊥) → bit_at (with_bit ws name) n ≡ (bit_at ws n || n == name)
    apart d =
        ap (λ w. (w / 2 ^ (n % 64)) % 2 == 1) (get_or-set_other ws (name / 64) (n / 64) _ 0 d)
        ∙ sym (other (elim (cases_eq n name) as (λ _. (n == name) ≡ false) [ inl e ↦ absurd (d (ap (λ k. k / 64) e)) | inr f ↦ grind (arith, nat_tests) ]))

    word : n / 64 ≡ name / 64 → slice_index_or (with_bit ws name) (n / 64) 0 ≡ bit_or rest (1 * 2 ^ (name % 64) % 18446744073709551616)
    word e = ap (λ k. slice_index_or (with_bit ws name) k 0) e ∙ get_or-set_same ws (name / 64) _ 0 (omega (arith, lt, l))

    same : n / 64 ≡ name / 64 → bit_at (with_bit ws name) n ≡ (bit_at ws n || n == name)
    same e = elim (cases_eq (n % 64) (name % 64)) as (λ _. bit_at (with_bit ws name) n ≡ (bit_at ws n || n == name)) [ inl f ↦ one f | inr f ↦ none f ]
      where
        one : n % 64 ≡ name % 64 → bit_at (with_bit ws name) n ≡ (bit_at ws n || n == name)
        one f =
            ap (λ w. (w / 2 ^ (n % 64)) % 2 == 1) (word e) ∙ ap (λ k. (bit_or rest (1 * 2 ^ (name % 64) % 18446744073709551616) / 2 ^ k) % 2 == 1) f
            ∙ ap (λ b. b == 1) (bit_at_set_same w64 rest (name % 64) (omega arith))
            ∙ sym (ap (λ b. bit_at ws n || b) (is_name) ∙ or-true (bit_at ws n))
          where
            is_name : (n == name) ≡ true
            is_name = let q : n ≡ name = omega (arith, e, f) in grind (arith, nat_tests)

        none : ((n % 64 ≡ name % 64) → ⊥) → bit_at (with_bit ws name) n ≡ (bit_at ws n || n == name)
        none f =
            ap (λ w. (w / 2 ^ (n % 64)) % 2 == 1) (word e) ∙ ap (λ b. b == 1) (bit_at_set_other w64 rest (name % 64) (omega arith) (n % 64) f)
            ∙ sym (ap (λ k. (slice_index_or ws k 0 / 2 ^ (n % 64)) % 2 == 1) e)
            ∙ sym (other (elim (cases_eq n name) as (λ _. (n == name) ≡ false) [ inl q ↦ absurd (f (ap (λ k. k % 64) q)) | inr q ↦ grind (arith, nat_tests) ]))

pub bits_put : (ws : List ℕ) (name : ℕ) → name < 512 → length ws ≡ 8 → bit_at (with_bit ws name) ≡ (λ n. bit_at ws n || n == name)
bits_put ws name lt l = λ i n. bits_put_at ws name lt l n i

-- a set for each of the first so many names

abbrev pub FirstRows : Grid → ℕ → List (List ℕ) → Type 0
FirstRows t k rows = (length rows ≡ k) × ((n : ℕ) → n < k → bit_at (slice_index_or rows n []) ≡ (λ m. lacks t (n, m)))

at_front : (rows : List (List ℕ)) (row : List ℕ) (n : ℕ) → n < length rows → slice_index_or (rows ++ row ∷ []) n [] ≡ slice_index_or rows n []
at_front [] row n lt = absurd (omega (arith, lt))
at_front (r ∷ rows) row zero lt = refl
at_front (r ∷ rows) row (suc n) lt = at_front rows row n (omega (arith, lt))

at_end : (rows : List (List ℕ)) (row : List ℕ) → slice_index_or (rows ++ row ∷ []) (length rows) [] ≡ row
at_end [] row = refl
at_end (r ∷ rows) row = at_end rows row

one_more : (rows : List (List ℕ)) (row : List ℕ) → length (rows ++ row ∷ []) ≡ length rows + 1
one_more [] row = refl
one_more (r ∷ rows) row = let shift : suc (length rows + 1) ≡ suc (length rows) + 1 = omega arith in ap suc (one_more rows row) ∙ shift

pub no_rows : (t : Grid) (rows : List (List ℕ)) → rows ≡ [] → FirstRows t 0 rows
no_rows t rows e = (ap length e, λ n lt. absurd (omega (arith, lt)))

pub row_turn : (t : Grid) (k : ℕ) (rows new : List (List ℕ)) (row : List ℕ) → FirstRows t k rows → bit_at row ≡ (λ m. lacks t (k, m)) → new ≡ rows ++ row ∷ [] → FirstRows t (k + 1) new
row_turn t k rows new row had is e = (ap length e ∙ one_more rows row ∙ ap (λ n. n + 1) had.0, λ n lt. ap (λ xs. bit_at (slice_index_or xs n [])) e ∙ at n lt)
  where
    at : (n : ℕ) → n < k + 1 → bit_at (slice_index_or (rows ++ row ∷ []) n []) ≡ (λ m. lacks t (n, m))
    at n lt = elim (cases_eq n k) as (λ _. bit_at (slice_index_or (rows ++ row ∷ []) n []) ≡ (λ m. lacks t (n, m))) [ inl q ↦ last q | inr d ↦ earlier d ]
      where
        last : n ≡ k → bit_at (slice_index_or (rows ++ row ∷ []) n []) ≡ (λ m. lacks t (n, m))
        last q = ap (λ j. bit_at (slice_index_or (rows ++ row ∷ []) j [])) (q ∙ sym had.0) ∙ ap bit_at (at_end rows row) ∙ is ∙ ap (λ j m. lacks t (j, m)) (sym q)

        earlier : (n ≡ k → ⊥) → bit_at (slice_index_or (rows ++ row ∷ []) n []) ≡ (λ m. lacks t (n, m))
        earlier d = let size = had.0 in ap bit_at (at_front rows row n (omega (arith, lt, d, size))) ∙ had.1 n (omega (arith, lt, d))
