-- What the scanner finds at the front of a text.
-- The headline does not rest on this file.
use Rattle.std.specs.Prelude.{◌≡◌, ◌<◌, ◌≤◌, ◌^◌, ◌&&◌, ◌==◌, not, ℕ, suc, Bool, List, [], ◌∷◌, take, drop, Option, Some, None, option_map, if◌then◌else◌, string_bytes, IsUtf8}
use Rattle.std.specs.List.{prefix_len}
use Rattle.ciao_tokens.specs.Forms.{name, quoted, variable, number, text, mark, stop, starts}
use Rattle.ciao_tokens.specs.Pieces.{Piece, layout, token, size, IsPiece, IsStuck}
use Rattle.ciao_tokens.specs.Classes.{class_of, mark_of}
use Rattle.ciao_tokens.specs.declared.classes.Class.{Class}
use Rattle.ciao_tokens.specs.declared.parts.Part.{Part}
use Rattle.ciao_tokens.specs.declared.parts.Part.TheVariants as part
use Rattle.ciao_tokens.specs.declared.parts.Found.{Found}

-- a byte of this class comes first
abbrev pub Begins : Class → List ℕ → Type 0
Begins k [] = ⊥
Begins k (c ∷ cs) = class_of c ≡ k

-- the piece is the first of what is left, and this stands behind it
pub record IsFirst (p : Piece) (left behind : List ℕ) : Type 0 where
  pub piece : IsPiece p left
  pub rest : behind ≡ drop (size p) left

-- such a part is the first piece of what is left
abbrev pub Finds : Part → List ℕ → List ℕ → Type 0
Finds part.Layout left behind = (n : ℕ) × IsFirst (layout n) left behind
Finds (part.Name word) left behind = (n : ℕ) × IsFirst (token n (name word.now)) left behind
Finds (part.Quoted word) left behind = (n : ℕ) × IsFirst (token n (quoted (string_bytes word))) left behind
Finds (part.Variable word) left behind = (n : ℕ) × IsFirst (token n (variable word.now)) left behind
Finds (part.Number value) left behind = (n : ℕ) × IsFirst (token n (number value)) left behind × (value ≤ 2 ^ 63)
Finds part.TooLarge left behind = (n : ℕ) × (value : ℕ) × IsFirst (token n (number value)) left behind × (2 ^ 63 < value)
Finds (part.Text chars) left behind = (n : ℕ) × IsFirst (token n (text chars)) left behind
Finds (part.Mark byte) left behind = (n : ℕ) × IsFirst (token n (mark (mark_of byte))) left behind
Finds part.End left behind = (n : ℕ) × IsFirst (token n stop) left behind

-- the first piece of what is left, or none where nothing can stand there
abbrev pub Gives : List ℕ → Option Found → Type 0
Gives left None = IsStuck left
Gives left (Some found) = Finds found.part left found.behind.now × IsUtf8 found.behind.now

-- the longest front of such bytes
abbrev pub run : (ℕ → Bool) → List ℕ → List ℕ
run test left = take (prefix_len test left) left

-- what stands behind the longest front of such bytes
abbrev pub behind_run : (ℕ → Bool) → List ℕ → List ℕ
behind_run test left = drop (prefix_len test left) left

-- a byte that is no line feed
abbrev pub in_line : ℕ → Bool
in_line c = not (c == 10)

-- the number of bytes up to the first `*/`, which counts
abbrev pub comment_size : List ℕ → Option ℕ
comment_size [] = None
comment_size (c ∷ cs) = if c == 42 && starts (λ d. d == 47) cs then Some 2 else option_map (λ n. suc n) (comment_size cs)
