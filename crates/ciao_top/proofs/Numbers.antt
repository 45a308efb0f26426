use Rattle.std.proofs.Common.{◌≡◌, ℕ, ◌+◌, ◌-◌, ◌*◌, ◌<◌, [], ◌∷◌, refl, Bool, true, false, Some, None, if◌then◌else◌, nat_le, arith, ap}
use Rattle.ciao_modules.specs.FileNames.{Word}
use Rattle.ciao_top.specs.Words.{is_digit, number_behind}

-- what is above the limit is not within it
not_within : (n most : ℕ) → most < n → nat_le n most ≡ false
not_within n most lt = grind (arith, lt)

-- what is too large stays so
pub too_large : (most n : ℕ) (word : Word) → most < n → number_behind most n word ≡ None
too_large most n [] lt = ap (λ b. if b then Some n else None) (not_within n most lt)
too_large most n (c ∷ cs) lt = by_digit (is_digit c) (too_large most (n * 10 + (c - 48)) cs (omega (lt, arith)))
  where
    by_digit : (b : Bool) → number_behind most (n * 10 + (c - 48)) cs ≡ None → (if b then number_behind most (n * 10 + (c - 48)) cs else None) ≡ None
    by_digit true none = none
    by_digit false none = refl
