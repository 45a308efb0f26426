-- What is written as a token is that token, before nothing, a blank or a mark.
-- The headline does not rest on this file.
use Rattle.std.specs.Prelude.{◌≡◌, ◌≤◌, ◌^◌, ℕ, true, false, ◌==◌, List, ◌∷◌, ◌++◌, length, codes, decimal, IsUtf8}
use Rattle.std.specs.List.{list_any}
use Rattle.term_core.specs.Lists.{IsPrefix}
use Rattle.term_core.specs.Characters.{is_name}
use Rattle.term_core.specs.Printing.{in_quotes}
use Rattle.ciao_tokens.specs.Layout.{is_blank}
use Rattle.ciao_tokens.specs.Forms.{name, quoted, variable, number, mark, Mark, byte_of, ends_or_starts}
use Rattle.ciao_tokens.specs.Pieces.{Piece, layout, token, IsPiece, Cut}
use Rattle.ciao_tokens.specs.Tokens.{has_mark, names_with}

-- nothing, or a blank or a mark first
abbrev pub IsApart : List ℕ → Type 0
IsApart behind = ends_or_starts (λ c. list_any (λ d. c == d) (codes " \t\n\r()[]{},|")) behind ≡ true

-- what is written as a token is read as that token
pub record WrittenIsRead : Type 0 where
  -- a blank is layout, before anything
  pub blanks : (c : ℕ) (behind : List ℕ) → is_blank c ≡ true → IsPiece (layout 1) (c ∷ behind)
  -- a mark is that mark, before anything
  pub marks : (m : Mark) (behind : List ℕ) → IsPiece (token 1 (mark m)) (byte_of m ∷ behind)
  -- a text that needs no quotes is the name of this text
  pub names : (text behind : List ℕ) → is_name text ≡ true → IsApart behind → IsPiece (token (length text) (name text)) (text ++ behind)
  -- the minus is a name alone before the digits of a number
  pub signs : (n : ℕ) (behind : List ℕ) → n ≤ 2 ^ 63 → IsPiece (token 1 (name (codes "-"))) (codes "-" ++ (decimal n ++ behind))
  -- a text in quotes is the quoted name of this text
  pub quotes : (text behind : List ℕ) → IsUtf8 text → IsApart behind → IsPiece (token (length (in_quotes text)) (quoted text)) (in_quotes text ++ behind)
  -- `_` and digits are a variable
  pub variables : (v : ℕ) (behind : List ℕ) → IsApart behind → IsPiece (token (length (codes "_" ++ decimal v)) (variable (codes "_" ++ decimal v))) ((codes "_" ++ decimal v) ++ behind)
  -- the digits of a number that a token may have are that number
  pub numbers : (n : ℕ) (behind : List ℕ) → n ≤ 2 ^ 63 → IsApart behind → IsPiece (token (length (decimal n)) (number n)) (decimal n ++ behind)
  -- the digits of a number are UTF-8
  pub digits_utf8 : (n : ℕ) → IsUtf8 (decimal n)
  -- a text in quotes is UTF-8
  pub quotes_utf8 : (text : List ℕ) → IsUtf8 text → IsUtf8 (in_quotes text)
  -- no text of pieces begins with the mark of UTF-8
  pub unmarked : (ps : List Piece) (bytes : List ℕ) → Cut ps bytes → has_mark bytes ≡ false
  -- the names before keep their places
  pub kept : (before : List (List ℕ)) (ps : List Piece) → IsPrefix before (names_with before ps)
