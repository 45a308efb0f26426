-- The text of words and blanks that may stand side by side is cut into their pieces.
use Rattle.std.proofs.Common.{◌≡◌, ◌<◌, ◌^◌, ℕ, Bool, true, false, List, [], ◌∷◌, ◌++◌, length, drop, get_or, zero, suc, refl, sym, subst, arith, decimal}
use Rattle.std.proofs.lemmas.Bool.{and_parts, leb-true}
use Rattle.std.proofs.lemmas.Str.{IsUtf8-append, IsUtf8-nil, IsUtf8-from_ascii}
use Rattle.std.specs.Prelude.{nat_le, codes, IsUtf8, if◌then◌else◌}
use Rattle.term_core.specs.Characters.{is_name}
use Rattle.term_core.specs.Printing.{quoted_where_needed, in_quotes}
use Rattle.term_core.specs.Names.{name_text}
use Rattle.ciao_tokens.specs.Forms.{name, quoted, paren, close_paren, bracket, close_bracket, curly, close_curly, comma, bar}
use Rattle.ciao_tokens.specs.Pieces.{token, size, IsPiece, Cut}
use Rattle.ciao_tokens.specs.Tokens.{IsInRange, AreInRange, has_mark}
use Rattle.ciao_tokens.specs.Written.{IsApart, WrittenIsRead}
use Rattle.ciao_reader.specs.declared.words.Word.{Word}
use Rattle.ciao_reader.specs.declared.words.Word.TheVariants as word
use Rattle.ciao_reader.proofs.PrintedWords.{Spaced, blank, one_word, is_apart, is_digits, may_precede, are_apart, is_within, are_within, spelled, spaced_bytes, bytes_of, piece_of, pieces_of}

-- what stands behind a word
drop_word : (word behind : List ℕ) → drop (length word) (word ++ behind) ≡ behind
drop_word [] behind = refl
drop_word (c ∷ cs) behind = drop_word cs behind

-- a byte of ASCII is a text
byte_utf8 : (c : ℕ) → c < 128 → IsUtf8 (c ∷ [])
byte_utf8 c l = IsUtf8-from_ascii (c ∷ []) (λ i. by i)
  where
    by : (i : ℕ) → get_or (c ∷ []) i 0 < 128
    by zero = l
    by (suc i) = omega arith

module _ (written : WrittenIsRead) where
  -- a name, in quotes where it needs them
  name_utf8 : (text : List ℕ) → IsUtf8 text → IsUtf8 (quoted_where_needed true text)
  name_utf8 text u = by (is_name text)
    where
      by : (b : Bool) → IsUtf8 (if b then text else in_quotes text)
      by true = u
      by false = written.quotes_utf8 text u

  name_stands : (text behind : List ℕ) → IsUtf8 text → IsApart behind
      → IsPiece (token (length (quoted_where_needed true text)) (if is_name text then name text else quoted text)) (quoted_where_needed true text ++ behind)
  name_stands text behind u apart = by (is_name text) refl
    where
      by : (b : Bool) → is_name text ≡ b → IsPiece (token (length (if b then text else in_quotes text)) (if b then name text else quoted text)) ((if b then text else in_quotes text) ++ behind)
      by true e = written.names text behind e apart
      by false e = written.quotes text behind u apart

module _ (written : WrittenIsRead) (names : List (List ℕ)) (texts : (n : ℕ) → IsUtf8 (name_text names n)) where
  -- what may stand behind a word begins so
  apart_bytes : (bs : List Spaced) → is_apart bs ≡ true → IsApart (bytes_of names bs)
  apart_bytes [] e = refl
  apart_bytes (blank ∷ bs) e = refl
  apart_bytes (one_word word.Paren ∷ bs) e = refl
  apart_bytes (one_word word.CloseParen ∷ bs) e = refl
  apart_bytes (one_word word.OpenList ∷ bs) e = refl
  apart_bytes (one_word word.CloseList ∷ bs) e = refl
  apart_bytes (one_word word.OpenCurly ∷ bs) e = refl
  apart_bytes (one_word word.CloseCurly ∷ bs) e = refl
  apart_bytes (one_word word.Comma ∷ bs) e = refl
  apart_bytes (one_word word.Bar ∷ bs) e = refl
  apart_bytes (one_word other ∷ bs) e = cc

  -- a sign stands before a number
  sign_stands : (count : ℕ) (bs : List Spaced) → is_digits bs ≡ true → are_within count bs ≡ true → IsPiece (piece_of names (one_word word.Sign)) (codes "-" ++ bytes_of names bs)
  sign_stands count (one_word (word.Number n) ∷ bs) e w = written.signs n (bytes_of names bs) (leb-true n (2 ^ 63) (and_parts (nat_le n (2 ^ 63)) _ w).0)
  sign_stands count other e w = cc

  -- a word is a piece before what it may precede
  spaced_piece : (count : ℕ) (b : Spaced) (bs : List Spaced) → may_precede b bs ≡ true → are_within count (b ∷ bs) ≡ true → IsPiece (piece_of names b) (spaced_bytes names b ++ bytes_of names bs)
  spaced_piece count blank bs e w = written.blanks 32 (bytes_of names bs) refl
  spaced_piece count (one_word (word.Number n)) bs e w = written.numbers n (bytes_of names bs) (leb-true n (2 ^ 63) (and_parts (nat_le n (2 ^ 63)) _ w).0) (apart_bytes bs e)
  spaced_piece count (one_word (word.Variable v)) bs e w = written.variables v (bytes_of names bs) (apart_bytes bs e)
  spaced_piece count (one_word (word.Text cs)) bs e w = cc
  spaced_piece count (one_word (word.Atom a)) bs e w = name_stands written (name_text names a) (bytes_of names bs) (texts a) (apart_bytes bs e)
  spaced_piece count (one_word (word.Call f)) bs e w = name_stands written (name_text names f) (bytes_of names bs) (texts f) (apart_bytes bs e)
  spaced_piece count (one_word word.Sign) bs e w = sign_stands count bs e w
  spaced_piece count (one_word (word.Before f)) bs e w = name_stands written (name_text names f) (bytes_of names bs) (texts f) (apart_bytes bs e)
  spaced_piece count (one_word (word.Between f)) bs e w = name_stands written (name_text names f) (bytes_of names bs) (texts f) (apart_bytes bs e)
  spaced_piece count (one_word word.Paren) bs e w = written.marks paren (bytes_of names bs)
  spaced_piece count (one_word word.CloseParen) bs e w = written.marks close_paren (bytes_of names bs)
  spaced_piece count (one_word word.OpenList) bs e w = written.marks bracket (bytes_of names bs)
  spaced_piece count (one_word word.CloseList) bs e w = written.marks close_bracket (bytes_of names bs)
  spaced_piece count (one_word word.OpenCurly) bs e w = written.marks curly (bytes_of names bs)
  spaced_piece count (one_word word.CloseCurly) bs e w = written.marks close_curly (bytes_of names bs)
  spaced_piece count (one_word word.Comma) bs e w = written.marks comma (bytes_of names bs)
  spaced_piece count (one_word word.Bar) bs e w = written.marks bar (bytes_of names bs)
  spaced_piece count (one_word word.Stop) bs e w = cc

  behind_one : (b : Spaced) (behind : List ℕ) → drop (size (piece_of names b)) (spaced_bytes names b ++ behind) ≡ behind
  behind_one blank behind = refl
  behind_one (one_word w) behind = drop_word (spelled names w) behind

  within_rest : (count : ℕ) (b : Spaced) (bs : List Spaced) → are_within count (b ∷ bs) ≡ true → are_within count bs ≡ true
  within_rest count blank bs w = w
  within_rest count (one_word x) bs w = (and_parts (is_within count x) (are_within count bs) w).1

  -- the pieces are cut from the text
  pub spaced_cut : (count : ℕ) (bs : List Spaced) → are_apart bs ≡ true → are_within count bs ≡ true → Cut (pieces_of names bs) (bytes_of names bs)
  spaced_cut count [] e w = refl
  spaced_cut count (b ∷ bs) e w =
      let p = and_parts (may_precede b bs) (are_apart bs) e in (
        spaced_piece count b bs p.0 w,
        subst (Cut (pieces_of names bs)) (sym (behind_one b (bytes_of names bs))) (spaced_cut count bs p.1 (within_rest count b bs w)),
      )

  -- each word is UTF-8
  word_utf8 : (w : Word) → IsUtf8 (spelled names w)
  word_utf8 (word.Number n) = written.digits_utf8 n
  word_utf8 (word.Variable v) = IsUtf8-append (95 ∷ []) (decimal v) (byte_utf8 95 (omega arith)) (written.digits_utf8 v)
  word_utf8 (word.Text cs) = IsUtf8-nil
  word_utf8 (word.Atom a) = name_utf8 written (name_text names a) (texts a)
  word_utf8 (word.Call f) = name_utf8 written (name_text names f) (texts f)
  word_utf8 word.Sign = byte_utf8 45 (omega arith)
  word_utf8 (word.Before f) = name_utf8 written (name_text names f) (texts f)
  word_utf8 (word.Between f) = name_utf8 written (name_text names f) (texts f)
  word_utf8 word.Paren = byte_utf8 40 (omega arith)
  word_utf8 word.CloseParen = byte_utf8 41 (omega arith)
  word_utf8 word.OpenList = byte_utf8 91 (omega arith)
  word_utf8 word.CloseList = byte_utf8 93 (omega arith)
  word_utf8 word.OpenCurly = byte_utf8 123 (omega arith)
  word_utf8 word.CloseCurly = byte_utf8 125 (omega arith)
  word_utf8 word.Comma = byte_utf8 44 (omega arith)
  word_utf8 word.Bar = byte_utf8 124 (omega arith)
  word_utf8 word.Stop = IsUtf8-nil

  -- the text is UTF-8
  pub bits_utf8 : (bs : List Spaced) → IsUtf8 (bytes_of names bs)
  bits_utf8 [] = IsUtf8-nil
  bits_utf8 (blank ∷ bs) = IsUtf8-append (32 ∷ []) (bytes_of names bs) (byte_utf8 32 (omega arith)) (bits_utf8 bs)
  bits_utf8 (one_word w ∷ bs) = IsUtf8-append (spelled names w) (bytes_of names bs) (word_utf8 w) (bits_utf8 bs)

  -- it does not begin with the mark of UTF-8
  pub spaced_unmarked : (count : ℕ) (bs : List Spaced) → are_apart bs ≡ true → are_within count bs ≡ true → has_mark (bytes_of names bs) ≡ false
  spaced_unmarked count bs e w = written.unmarked (pieces_of names bs) (bytes_of names bs) (spaced_cut count bs e w)

-- each number is in range
pub spaced_in_range : (names : List (List ℕ)) (count : ℕ) (bs : List Spaced) → are_within count bs ≡ true → AreInRange (pieces_of names bs)
spaced_in_range names count [] w = tt
spaced_in_range names count (blank ∷ bs) w = (tt, spaced_in_range names count bs w)
spaced_in_range names count (one_word x ∷ bs) w = let p = and_parts (is_within count x) (are_within count bs) w in (one x p.0, spaced_in_range names count bs p.1)
  where
    named : (text : List ℕ) → IsInRange (token (length (quoted_where_needed true text)) (if is_name text then name text else quoted text))
    named text = by (is_name text)
      where
        by : (b : Bool) → IsInRange (token (length (quoted_where_needed true text)) (if b then name text else quoted text))
        by true = tt
        by false = tt

    one : (x : Word) → is_within count x ≡ true → IsInRange (piece_of names (one_word x))
    one (word.Number n) w = leb-true n (2 ^ 63) w
    one (word.Atom a) w = named (name_text names a)
    one (word.Call f) w = named (name_text names f)
    one (word.Before f) w = named (name_text names f)
    one (word.Between f) w = named (name_text names f)
    one other w = tt
