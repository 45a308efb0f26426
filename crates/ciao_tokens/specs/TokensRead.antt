-- Where the scanner stands, and where it stands behind one piece more.
-- The headline does not rest on this file.
use Rattle.std.specs.Prelude.{⊤, ◌≡◌, ◌++◌, ℕ, ◌+◌, Bool, true, false, List, [], ◌∷◌, Option, Some, None, option_map, string_bytes}
use Rattle.term_core.specs.Names.{with_texts}
use Rattle.ciao_tokens.specs.Forms.{Shape, name, quoted, variable, number, text, mark, stop}
use Rattle.ciao_tokens.specs.Pieces.{Piece, layout, token, IsStuck}
use Rattle.ciao_tokens.specs.Tokens.{At, behind, token_at, kind_of, words, IsInRange}
use Rattle.ciao_tokens.specs.Faults.{IsTooLarge}
use Rattle.ciao_tokens.specs.Classes.{mark_of}
use Rattle.ciao_tokens.specs.Scanning.{IsFirst}
use Rattle.ciao_tokens.specs.declared.kinds.Token.{Token}
use Rattle.ciao_tokens.specs.declared.kinds.TokenKind.{TokenKind}
use Rattle.ciao_tokens.specs.declared.kinds.TokenKind.TheVariants as kind
use Rattle.ciao_tokens.specs.declared.kinds.TextFault.{TextFault}
use Rattle.ciao_tokens.specs.declared.kinds.TextFault.TheVariants.{NotUtf8, BadToken, IntRange, NoMemory}
use Rattle.ciao_tokens.specs.declared.parts.Part.{Part}
use Rattle.ciao_tokens.specs.declared.parts.Part.TheVariants as part
use Rattle.ciao_tokens.specs.declared.scanner.Scan.{Scan}

-- a part is a number above 2^63
abbrev pub is_too_large : Part → Bool
is_too_large part.Layout = false
is_too_large (part.Name word) = false
is_too_large (part.Quoted word) = false
is_too_large (part.Variable word) = false
is_too_large (part.Number value) = false
is_too_large part.TooLarge = true
is_too_large (part.Text chars) = false
is_too_large (part.Mark byte) = false
is_too_large part.End = false

-- the token that a part is, if it is one within the limit
abbrev pub shape_of : Part → Option Shape
shape_of part.Layout = None
shape_of (part.Name word) = Some (name word.now)
shape_of (part.Quoted word) = Some (quoted (string_bytes word))
shape_of (part.Variable word) = Some (variable word.now)
shape_of (part.Number value) = Some (number value)
shape_of part.TooLarge = None
shape_of (part.Text chars) = Some (text chars)
shape_of (part.Mark byte) = Some (mark (mark_of byte))
shape_of part.End = Some stop

-- the piece of so many bytes that a part is
abbrev pub piece_with : Option Shape → ℕ → Piece
piece_with None n = layout n
piece_with (Some s) n = token n s

-- how a token tells a part, directly behind a name or not
abbrev pub kind_with : List (List ℕ) → Option Shape → Bool → Option TokenKind
kind_with names s behind_name = option_map (λ x. kind_of names x behind_name) s

-- the tokens so far, and the place behind them
pub record Stand : Type 0 where
  pub tokens : List Token
  pub at : At

-- where the code stands, at a place
abbrev pub stand : Scan → ℕ → Stand
stand s place = record { tokens = s.tokens; at = record { line = s.line; place = place; is_behind_name = s.is_behind_name; is_behind_layout = s.is_behind_layout } }

-- behind one piece more of what is left
abbrev pub after : List (List ℕ) → Stand → Piece → List ℕ → Stand
after names s (layout n) left = record { tokens = s.tokens; at = behind s.at (layout n) left }
after names s (token n shape) left = record { tokens = s.tokens ++ token_at names s.at n shape ∷ []; at = behind s.at (token n shape) left }

-- the first piece of what is left has been read
pub record Reads (left rest : List ℕ) (before later : List (List ℕ)) (old new : Stand) : Type 0 where
  pub piece : Piece
  pub is_first : IsFirst piece left rest
  pub range : IsInRange piece
  pub names : later ≡ with_texts before (words (piece ∷ []))
  pub is : new ≡ after before old piece left

-- why nothing could be read
abbrev pub CannotRead : List ℕ → ℕ → TextFault → Type 0
CannotRead left line (NotUtf8 at) = ⊥
CannotRead left line (BadToken at) = (at ≡ line) × IsStuck left
CannotRead left line (IntRange at) = (at ≡ line) × IsTooLarge left
CannotRead left line NoMemory = ⊤

-- a name, quoted or not
abbrev pub is_name : TokenKind → Bool
is_name (kind.Name at) = true
is_name (kind.Quoted at) = true
is_name (kind.Variable at) = false
is_name (kind.Number value) = false
is_name (kind.Text chars) = false
is_name kind.OpenCall = false
is_name kind.Open = false
is_name kind.Close = false
is_name kind.OpenList = false
is_name kind.CloseList = false
is_name kind.OpenCurly = false
is_name kind.CloseCurly = false
is_name kind.Comma = false
is_name kind.Bar = false
is_name kind.End = false

-- with one token more, of bytes with so many line feeds
abbrev pub with_token : Scan → TokenKind → ℕ → ℕ → ℕ → Scan
with_token s k start end feeds = record {
  tokens = s.tokens ++ record { kind = k; line = s.line; start = start; end = end; layout_before = s.is_behind_layout } ∷ [];
  line = s.line + feeds;
  is_behind_name = is_name k;
  is_behind_layout = false;
}
