-- The conditions that are looked at.
use Rattle.std.proofs.Common.{◌≡◌, ℕ, zero, suc, Bool, true, false, not, List, [], ◌∷◌, drop, length, filter, slice_get, None, refl, sym, true≢false}
use Rattle.std.proofs.lemmas.Bool.{and_parts}
use Rattle.std.specs.Prelude.{◌==◌, cond, slice_index_or}
use Rattle.std.specs.List.{list_all}
use Rattle.prog_data.specs.declared.programs.Program.{Program}
use Rattle.prog_data.specs.Goals.{pred_of, no_pred}

-- an element that is not there
absent_index : {A : Type 0} (xs : List A) (i : ℕ) (d : A) → slice_get xs i ≡ None → slice_index_or xs i d ≡ d
absent_index [] i d e = refl
absent_index (x ∷ xs) zero d e = cc
absent_index (x ∷ xs) (suc i) d e = absent_index xs i d e

-- a predicate that is not there is the one without clauses and conditions
pub absent_pred : (program : Program) (p : ℕ) → slice_get program.preds p ≡ None → no_pred ≡ pred_of program p
absent_pred program p e = sym (absent_index program.preds p no_pred e)

-- none of these passes
none_pass : (test : ℕ → Bool) (xs : List ℕ) → list_all (λ c. not (test c)) xs ≡ true → filter test xs ≡ []
none_pass test [] e = refl
none_pass test (x ∷ xs) e = by_test (test x) (and_parts (not (test x)) (list_all (λ c. not (test c)) xs) e).0 (none_pass test xs (and_parts (not (test x)) (list_all (λ c. not (test c)) xs) e).1) where
  by_test : (b : Bool) → not b ≡ true → filter test xs ≡ [] → cond b (x ∷ filter test xs) (filter test xs) ≡ []
  by_test true e rest = absurd (true≢false (sym e))
  by_test false e rest = rest

-- of some of which only the first may pass
pub first_passes : (test : ℕ → Bool) (xs : List ℕ) → (length xs == 0) ≡ false → list_all (λ c. not (test c)) (drop 1 xs) ≡ true → test (slice_index_or xs 0 0) ≡ true → filter test xs ≡ slice_index_or xs 0 0 ∷ []
first_passes test [] some others holds = absurd (true≢false some)
first_passes test (x ∷ xs) some others holds = λ i. cond (holds i) (x ∷ none_pass test xs others i) (none_pass test xs others i)

pub first_fails : (test : ℕ → Bool) (xs : List ℕ) → (length xs == 0) ≡ false → list_all (λ c. not (test c)) (drop 1 xs) ≡ true → test (slice_index_or xs 0 0) ≡ false → filter test xs ≡ []
first_fails test [] some others fails = refl
first_fails test (x ∷ xs) some others fails = λ i. cond (fails i) (x ∷ none_pass test xs others i) (none_pass test xs others i)
