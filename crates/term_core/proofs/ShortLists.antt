-- Lists of one item and of two.
use Rattle.std.proofs.Common.{◌≡◌, List, [], ◌∷◌, length, refl, arith}

-- a list of one
pub one_of : {X : Type 0} (xs : List X) → length xs ≡ 1 → (x : X) × (xs ≡ x ∷ [])
one_of [] e = absurd (omega (arith, e))
one_of (x ∷ []) e = (x, refl)
one_of (x ∷ y ∷ zs) e = absurd (omega (arith, e))

-- a list of two
pub two_of : {X : Type 0} (xs : List X) → length xs ≡ 2 → (x y : X) × (xs ≡ x ∷ y ∷ [])
two_of [] e = absurd (omega (arith, e))
two_of (x ∷ []) e = absurd (omega (arith, e))
two_of (x ∷ y ∷ []) e = (x, y, refl)
two_of (x ∷ y ∷ z ∷ zs) e = absurd (omega (arith, e))
