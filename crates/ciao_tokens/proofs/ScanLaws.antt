-- The scanner behind one piece more.
use Rattle.std.proofs.Common.{◌≡◌, ◌≤◌, ℕ, ◌+◌, Bool, true, false, List, [], ◌∷◌, ◌++◌, ◌-◌, length, take, refl, sym, ap, ◌∙◌, arith}
use Rattle.std.proofs.lemmas.List.{length-drop}
use Rattle.term_core.specs.Names.{with_texts}
use Rattle.std.specs.Prelude.{Option, Some, None}
use Rattle.ciao_tokens.specs.Forms.{Shape, name, quoted, variable, number, text, mark, stop, Mark, paren, close_paren, bracket, close_bracket, curly, close_curly, comma, bar}
use Rattle.ciao_tokens.specs.Pieces.{Piece, layout, token, size, IsPiece}
use Rattle.ciao_tokens.specs.Tokens.{line_feeds, is_naming, kind_of, mark_kind, words, IsInRange}
use Rattle.ciao_tokens.specs.Faults.{IsTooLarge}
use Rattle.ciao_tokens.specs.Scanning.{IsFirst, Finds}
use Rattle.ciao_tokens.specs.declared.parts.Part.{Part}
use Rattle.ciao_tokens.specs.declared.parts.Part.TheVariants as part
use Rattle.ciao_tokens.specs.declared.kinds.TokenKind.{TokenKind}
use Rattle.ciao_tokens.specs.declared.scanner.Scan.{Scan}
use Rattle.ciao_tokens.specs.TokensRead.{Stand, Reads, shape_of, is_too_large, stand, after, piece_with, kind_with, with_token, is_name}

mark_no_name : (m : Mark) (b : Bool) → is_name (mark_kind m b) ≡ false
mark_no_name paren true = refl
mark_no_name paren false = refl
mark_no_name close_paren b = refl
mark_no_name bracket b = refl
mark_no_name close_bracket b = refl
mark_no_name curly b = refl
mark_no_name close_curly b = refl
mark_no_name comma b = refl
mark_no_name bar b = refl

-- a name is told as one
name_told : (names : List (List ℕ)) (s : Shape) (b : Bool) → is_name (kind_of names s b) ≡ is_naming s
name_told names (name word) b = refl
name_told names (quoted word) b = refl
name_told names (variable word) b = refl
name_told names (number n) b = refl
name_told names (text cs) b = refl
name_told names (mark m) b = mark_no_name m b
name_told names stop b = refl

same_kind : (a b : TokenKind) → Some a ≡ Some b → a ≡ b
same_kind a b e = cc

-- with the token that a part is
pub with_added : (names : List (List ℕ)) (s : Scan) (start n feeds : ℕ) (left : List ℕ) (o : Option Shape) (k : TokenKind) → feeds ≡ line_feeds (take n left) → kind_with names o s.is_behind_name ≡ Some k →
    stand (with_token s k start (start + n) feeds) (start + n) ≡ after names (stand s start) (piece_with o n) left
with_added names s start n feeds left None k e f = cc
with_added names s start n feeds left (Some x) k e f =
    let g = same_kind (kind_of names x s.is_behind_name) k f in
    ap (λ q. stand (with_token s q start (start + n) feeds) (start + n)) (sym g)
    ∙ ap (λ m. stand (with_token s (kind_of names x s.is_behind_name) start (start + n) m) (start + n)) e
    ∙ ap (λ b. record {
      tokens = s.tokens ++ record { kind = kind_of names x s.is_behind_name; line = s.line; start = start; end = start + n; layout_before = s.is_behind_layout } ∷ [];
      at = record { line = s.line + line_feeds (take n left); place = start + n; is_behind_name = b; is_behind_layout = false };
    }) (name_told names x s.is_behind_name)

-- what is found, as a piece

pub record FoundPiece (o : Option Shape) (left rest : List ℕ) : Type 0 where
  pub size : ℕ
  pub is_first : IsFirst (piece_with o size) left rest
  pub range : IsInRange (piece_with o size)

-- a part that is not too large is the first piece
pub found_piece : (p : Part) (left rest : List ℕ) → is_too_large p ≡ false → Finds p left rest → FoundPiece (shape_of p) left rest
found_piece part.Layout left rest e f = record { size = f.0; is_first = f.1; range = tt }
found_piece (part.Name word) left rest e f = record { size = f.0; is_first = f.1; range = tt }
found_piece (part.Quoted word) left rest e f = record { size = f.0; is_first = f.1; range = tt }
found_piece (part.Variable word) left rest e f = record { size = f.0; is_first = f.1; range = tt }
found_piece (part.Number value) left rest e f = record { size = f.0; is_first = f.1; range = f.2 }
found_piece part.TooLarge left rest e f = cc
found_piece (part.Text chars) left rest e f = record { size = f.0; is_first = f.1; range = tt }
found_piece (part.Mark byte) left rest e f = record { size = f.0; is_first = f.1; range = tt }
found_piece part.End left rest e f = record { size = f.0; is_first = f.1; range = tt }

pub found_large : (p : Part) (left rest : List ℕ) → is_too_large p ≡ true → Finds p left rest → IsTooLarge left
found_large part.TooLarge left rest e f = record { size = f.0; value = f.1; piece = f.2.piece; large = f.3 }
found_large part.Layout left rest e f = cc
found_large (part.Name word) left rest e f = cc
found_large (part.Quoted word) left rest e f = cc
found_large (part.Variable word) left rest e f = cc
found_large (part.Number value) left rest e f = cc
found_large (part.Text chars) left rest e f = cc
found_large (part.Mark byte) left rest e f = cc
found_large part.End left rest e f = cc

within : (p : Piece) (left : List ℕ) → IsPiece p left → size p ≤ length left
within (layout n) left i = i.0
within (token n s) left i = i.0

piece_size : (o : Option Shape) (n : ℕ) → size (piece_with o n) ≡ n
piece_size None n = refl
piece_size (Some s) n = refl

same_words : (o : Option Shape) (n : ℕ) → words (piece_with o 0 ∷ []) ≡ words (piece_with o n ∷ [])
same_words None n = refl
same_words (Some s) n = refl

-- the size is what the rest leaves
size_is : (o : Option Shape) (left rest : List ℕ) (n : ℕ) → IsFirst (piece_with o n) left rest → n ≡ length left - length rest
size_is o left rest n f = omega (arith, within (piece_with o n) left f.piece, piece_size o n, ap length f.rest ∙ length-drop (size (piece_with o n)) left)

-- with what was found, all as it is asked
pub has_read : (o : Option Shape) (left rest : List ℕ) (before later : List (List ℕ)) (old : Stand) (new : ℕ → Stand) (n start : ℕ) (bytes : List ℕ) → FoundPiece o left rest → n ≡ length left - length rest → later ≡ with_texts before (words (piece_with o 0 ∷ [])) →
    new (start + n) ≡ after before old (piece_with o n) bytes → bytes ≡ left → Reads left rest before later old (new (start + n))
has_read o left rest before later old new n start bytes f e named is whole =
    let same : f.size ≡ n = size_is o left rest f.size f.is_first ∙ sym e in
    record {
      piece = piece_with o f.size;
      is_first = f.is_first;
      range = f.range;
      names = named ∙ ap (with_texts before) (same_words o f.size);
      is = is ∙ ap (after before old (piece_with o n)) whole ∙ ap (λ k. after before old (piece_with o k) left) (sym same);
    }
