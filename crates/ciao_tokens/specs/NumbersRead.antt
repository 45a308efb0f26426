-- What the scanner reads of a number.
-- The headline does not rest on this file.
use Rattle.std.specs.Prelude.{◌≡◌, ◌<◌, ◌≤◌, ◌^◌, ℕ, true, List, [], ◌∷◌, ◌++◌, length, take, drop, MatchOption, IsUtf8}
use Rattle.std.specs.List.{list_all}
use Rattle.std.specs.Char.{is_ascii_digit, is_ascii_hexdigit}
use Rattle.ciao_tokens.specs.Quotes.{Part}
use Rattle.ciao_tokens.specs.Forms.{IsNumber}
use Rattle.ciao_tokens.specs.Pieces.{IsLongest}
use Rattle.ciao_tokens.specs.declared.numbers.Written.{Written}

-- the longest number that comes first, before it is asked whether it may stand there
pub record IsWritten (left : List ℕ) (w : Written) : Type 0 where
  pub size : ℕ
  pub value : ℕ
  pub within : size ≤ length left
  pub number : IsNumber (take size left) value
  pub longest : IsLongest size left
  pub rest : w.behind.now ≡ drop size left
  pub decimal : w.is_decimal ≡ list_all is_ascii_digit (take size left)
  pub values : MatchOption w.value (2 ^ 63 < value) (λ v. (v ≡ value) × (v ≤ 2 ^ 63))
  pub utf8 : IsUtf8 w.behind.now

-- no hexadecimal digit comes first
abbrev pub NoDigits : List ℕ → Type 0
NoDigits left = (digits later : List ℕ) → left ≡ digits ++ later → list_all is_ascii_hexdigit digits ≡ true → 1 ≤ length digits → ⊥

-- no part that means one character comes first
abbrev pub NoChar : List ℕ → Type 0
NoChar left = (part : List ℕ) (n : ℕ) (later : List ℕ) → Part 39 part (n ∷ []) → left ≡ part ++ later → ⊥

-- only decimal digits can come first
pub record OnlyDecimal (left : List ℕ) : Type 0 where
  pub no_hexadecimal : (behind : List ℕ) → left ≡ 48 ∷ 120 ∷ behind → NoDigits behind
  pub no_character : (behind : List ℕ) → left ≡ 48 ∷ 39 ∷ behind → NoChar behind
