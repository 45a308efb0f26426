-- What a list gives at a place that is not there.
use Rattle.std.proofs.Common.{◌≡◌, ℕ, zero, suc, ◌≤◌, List, [], ◌∷◌, length, slice_get, None, refl, arith}
use Rattle.std.specs.Prelude.{slice_index_or}

-- it gives what is said for such a place
pub absent_index : {A : Type 0} (xs : List A) (i : ℕ) (d : A) → slice_get xs i ≡ None → slice_index_or xs i d ≡ d
absent_index [] i d e = refl
absent_index (x ∷ xs) zero d e = cc
absent_index (x ∷ xs) (suc i) d e = absent_index xs i d e

-- and so behind the end
pub past : {A : Type 0} (d : A) (xs : List A) (i : ℕ) → length xs ≤ i → slice_index_or xs i d ≡ d
past d [] i le = refl
past d (x ∷ xs) zero le = absurd (omega (arith, le))
past d (x ∷ xs) (suc i) le = past d xs i (omega (arith, le))
