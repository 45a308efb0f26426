-- What the scanner reads between quotes.
-- The headline does not rest on this file.
use Rattle.std.specs.Prelude.{◌≡◌, ◌≤◌, ℕ, List, [], ◌∷◌, ◌++◌, length, Option, Some, None, IsUtf8}
use Rattle.std.specs.Char.{IsScalar}
use Rattle.ciao_tokens.specs.Quotes.{Part, Inside, value_of}
use Rattle.ciao_tokens.specs.BadTokens.{NoPart}
use Rattle.ciao_tokens.specs.declared.quotes.QuotedPart.{QuotedPart}

-- the characters that a part means
abbrev pub meaning : Option ℕ → List ℕ
meaning None = []
meaning (Some c) = c ∷ []

-- the part that comes first between these quotes, or none
abbrev pub GivesPart : ℕ → List ℕ → Option QuotedPart → Type 0
GivesPart quote left None = NoPart quote left
GivesPart quote left (Some p) = ((bytes : List ℕ) × Part quote bytes (meaning p.meant) × (left ≡ bytes ++ p.behind.now)) × IsUtf8 p.behind.now

-- the digits name a character
pub record IsCode (digits : List ℕ) (c : ℕ) : Type 0 where
  pub some : 1 ≤ length digits
  pub few : length digits ≤ 6
  pub is : c ≡ value_of 16 digits
  pub scalar : IsScalar c

-- all parts that come first mean these characters, and this is left behind them
pub record ReadsParts (quote : ℕ) (text chars left : List ℕ) : Type 0 where
  pub inside : List ℕ
  pub means : Inside quote inside chars
  pub whole : text ≡ inside ++ left
  pub no_more : NoPart quote left
