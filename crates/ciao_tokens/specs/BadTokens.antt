-- The six ways in which no token begins at a place; an unclosed comment and an unclosed quoted item are one.
-- The headline does not rest on this file.
use Rattle.std.specs.Prelude.{◌≡◌, ◌≤◌, ◌⊎◌, ℕ, Bool, true, false, ◌||◌, ◌==◌, List, ◌∷◌, ◌++◌, length, take, drop, codes}
use Rattle.std.specs.Str.{byte}
use Rattle.std.specs.List.{list_all, list_any}
use Rattle.std.specs.Char.{is_ascii_digit, is_ascii_alphabetic}
use Rattle.term_core.specs.Characters.{is_symbol, is_word_part}
use Rattle.ciao_tokens.specs.Layout.{is_blank, closes_comment}
use Rattle.ciao_tokens.specs.Quotes.{Part, Inside}
use Rattle.ciao_tokens.specs.Forms.{IsNumber, starts, ends_or_starts, starts_fraction}
use Rattle.ciao_tokens.specs.Pieces.{IsLongest}

-- no part of what stands between these quotes begins here
abbrev pub NoPart : ℕ → List ℕ → Type 0
NoPart quote bytes = (part meant rest : List ℕ) → Part quote part meant → bytes ≡ part ++ rest → ⊥

-- a quote of either kind
abbrev pub IsQuote : ℕ → Type 0
IsQuote quote = (quote ≡ byte "'") ⊎ (quote ≡ byte "\"")

-- a byte with which layout or a token begins
abbrev pub begins_some : ℕ → Bool
begins_some c = is_word_part c || (is_symbol c || (is_blank c || list_any (λ d. c == d) (codes "!;()[]{},|%'\"")))

-- a place where no token begins, by what is left
pub data IsBad : List ℕ → Type 0 where
  -- an unclosed comment or quoted item
  open_comment : {left : List ℕ} (rest : List ℕ) → left ≡ byte "/" ∷ byte "*" ∷ rest → ((n : ℕ) → closes_comment (take n rest) ≡ false) → IsBad left
  open_quotes : {left : List ℕ} (quote : ℕ) (inside meant : List ℕ) → IsQuote quote → Inside quote inside meant → left ≡ quote ∷ inside → IsBad left
  -- another escape
  other_escape : {left : List ℕ} (quote : ℕ) (inside meant rest : List ℕ) → IsQuote quote → Inside quote inside meant → NoPart quote (byte "\\" ∷ rest) → left ≡ quote ∷ inside ++ (byte "\\" ∷ rest) → IsBad left
  -- a single `.` that is no end
  lone_point : {left : List ℕ} (rest : List ℕ) → left ≡ byte "." ∷ rest → starts is_symbol rest ≡ false → ends_or_starts (λ c. is_blank c || c == byte "%") rest ≡ false → IsBad left
  -- a number directly before an ASCII letter or `_`
  number_letter : {left : List ℕ} (n value : ℕ) → n ≤ length left → IsNumber (take n left) value → IsLongest n left → starts (λ c. is_ascii_alphabetic c || c == byte "_") (drop n left) ≡ true → IsBad left
  -- decimal digits before a `.` and a digit
  fraction : {left : List ℕ} (digits rest : List ℕ) → list_all is_ascii_digit digits ≡ true → 1 ≤ length digits → starts_fraction rest ≡ true → left ≡ digits ++ rest → IsBad left
  -- a character that begins no token
  other_byte : {left : List ℕ} (c : ℕ) (rest : List ℕ) → begins_some c ≡ false → left ≡ c ∷ rest → IsBad left
