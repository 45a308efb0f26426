-- What stands at a place of a text.
use Rattle.std.proofs.Common.{ℕ, List, drop, subst}
use Rattle.std.specs.Prelude.{IsUtf8}
use Rattle.ciao_tokens.specs.Pieces.{Piece, size, IsPiece}
use Rattle.ciao_tokens.specs.BadTokens.{IsBad}
use Rattle.ciao_tokens.specs.Scanning.{IsFirst}

-- a piece with a text behind it, or no token begins in one of the six ways
pub data Found (left : List ℕ) : Type 0 where
  piece : (p : Piece) → IsPiece p left → IsUtf8 (drop (size p) left) → Found left
  bad : IsBad left → Found left

pub first_found : (p : Piece) (left behind : List ℕ) → IsFirst p left behind → IsUtf8 behind → Found left
first_found p left behind f u = piece p f.piece (subst IsUtf8 f.rest u)
