-- The digits of a number, as a text has them.
use Rattle.std.proofs.Common.{◌≡◌, ◌<◌, ◌≤◌, ◌+◌, ◌*◌, ◌^◌, ◌%◌, ◌/◌, ℕ, zero, suc, Bool, true, false, cond, List, [], ◌∷◌, length, refl, sym, ◌∙◌, arith, decimal}
use Rattle.std.proofs.lemmas.Bool.{and_from}
use Rattle.std.proofs.lemmas.Bool.Decides.{nat_tests}
use Rattle.std.proofs.lemmas.Fmt.{decimal_is_IsNumeral}
use Rattle.std.specs.Prelude.{◌==◌, fold}
use Rattle.std.specs.Char.{is_ascii_digit, digit_value}
use Rattle.std.specs.List.{list_all}
use Rattle.std.specs.Str.Parse.{digits_value_after}
use Rattle.std.specs.Fmt.{digits, digits_onto, digit_glyph}
use Rattle.ciao_tokens.specs.Quotes.{value_of}

-- the digit of a number below ten
glyph_digit : (d : ℕ) → d < 10 → is_ascii_digit (digit_glyph false d) ≡ true
glyph_digit d l = grind (arith, nat_tests)

remainder_small : (n : ℕ) → n % 10 < 10
remainder_small n = omega arith

onto_digits : (k n : ℕ) (acc : List ℕ) → list_all is_ascii_digit acc ≡ true → list_all is_ascii_digit (digits_onto k 10 false n acc) ≡ true
onto_digits zero n acc e = e
onto_digits (suc k) n acc e = by (n / 10 == 0) (onto_digits k (n / 10) (digit_glyph false (n % 10) ∷ acc) more)
  where
    more : list_all is_ascii_digit (digit_glyph false (n % 10) ∷ acc) ≡ true
    more = and_from _ _ (glyph_digit (n % 10) (remainder_small n)) e

    by : (b : Bool) → list_all is_ascii_digit (digits_onto k 10 false (n / 10) (digit_glyph false (n % 10) ∷ acc)) ≡ true
        → list_all is_ascii_digit (cond b (digit_glyph false (n % 10) ∷ acc) (digits_onto k 10 false (n / 10) (digit_glyph false (n % 10) ∷ acc))) ≡ true
    by true f = more
    by false f = f

-- each byte of a number is a digit
pub decimal_digits : (n : ℕ) → list_all is_ascii_digit (decimal n) ≡ true
unfolding digits
decimal_digits n = onto_digits 64 n [] refl

same_value : (n : ℕ) (ds : List ℕ) → fold (λ m d. m * 10 + digit_value d) n ds ≡ digits_value_after 10 n ds
same_value n [] = refl
same_value n (d ∷ ds) = same_value (n * 10 + digit_value d) ds

-- the digits write the number
pub decimal_value : (n : ℕ) → n < 2 ^ 64 → n ≡ value_of 10 (decimal n)
decimal_value n l = sym (same_value 0 (decimal n) ∙ (decimal_is_IsNumeral n l).1)

pub decimal_some : (n : ℕ) → n < 2 ^ 64 → 1 ≤ length (decimal n)
decimal_some n l = (decimal_is_IsNumeral n l).0.0
