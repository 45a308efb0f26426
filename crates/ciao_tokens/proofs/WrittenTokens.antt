-- What is written as a token is that token, before nothing, a blank or a mark.
use Rattle.std.proofs.Common.{◌≡◌, ◌≤◌, ◌<◌, ◌^◌, ℕ, true, false, List, [], ◌∷◌, ◌++◌, length, refl, ap, arith, decimal}
use Rattle.std.proofs.lemmas.Bool.{and_parts, false_from_ne_true}
use Rattle.std.proofs.lemmas.Bool.Decides.{nat_tests}
use Rattle.std.proofs.lemmas.Str.{IsUtf8-append}
use Rattle.std.specs.Prelude.{◌==◌, ◌&&◌, IsUtf8}
use Rattle.std.specs.List.{list_all}
use Rattle.std.specs.Char.{is_ascii, is_ascii_digit}
use Rattle.term_core.specs.Characters.{is_symbol}
use Rattle.term_core.specs.Printing.{in_quotes}
use Rattle.ciao_tokens.specs.Forms.{starts}
use Rattle.ciao_tokens.specs.Pieces.{Piece, Cut}
use Rattle.ciao_tokens.specs.Tokens.{has_mark, words}
use Rattle.ciao_tokens.specs.Written.{WrittenIsRead}
use Rattle.ciao_tokens.proofs.Ascii.{ascii_utf8, passes_ascii}
use Rattle.ciao_tokens.proofs.ByteClasses.{is_eq}
use Rattle.ciao_tokens.proofs.NamePlaces.{front_names}
use Rattle.ciao_tokens.proofs.OneByteLaws.{other_stuck}
use Rattle.ciao_tokens.proofs.WrittenDigits.{decimal_digits, decimal_some, decimal_value}
use Rattle.ciao_tokens.proofs.WrittenQuotes as between
use Rattle.ciao_tokens.proofs.WrittenWords.{blank_piece, mark_piece, name_piece, sign_piece, quoted_piece, variable_piece, number_piece}

-- a number that a token may have fits in 64 bits
in_bits : (n : ℕ) → n ≤ 2 ^ 63 → n < 2 ^ 64
in_bits n l = omega (arith, l)

-- digits are no symbol characters
digit_no_symbol : (ds behind : List ℕ) → list_all is_ascii_digit ds ≡ true → 1 ≤ length ds → starts is_symbol (ds ++ behind) ≡ false
digit_no_symbol [] behind all some = absurd (omega (arith, some))
digit_no_symbol (d ∷ ds) behind all some = apart d (and_parts (is_ascii_digit d) (list_all is_ascii_digit ds) all).0
  where
    apart : (c : ℕ) → is_ascii_digit c ≡ true → is_symbol c ≡ false
    apart c e = grind (arith, nat_tests)

digit_ascii : (c : ℕ) → is_ascii_digit c ≡ true → is_ascii c ≡ true
digit_ascii c e = grind (arith, nat_tests)

quotes_utf8 : (text : List ℕ) → IsUtf8 text → IsUtf8 (in_quotes text)
quotes_utf8 text u = IsUtf8-append (39 ∷ []) _ (ascii_utf8 (39 ∷ []) refl) (IsUtf8-append _ (39 ∷ []) (between.quotes text u).utf8 (ascii_utf8 (39 ∷ []) refl))

-- no piece begins with the mark of UTF-8
unmarked : (ps : List Piece) (bytes : List ℕ) → Cut ps bytes → has_mark bytes ≡ false
unmarked [] bytes c = ap has_mark c
unmarked (p ∷ ps) bytes c = false_from_ne_true (has_mark bytes) (λ e. (other_stuck 0xEF bytes (first_byte bytes e) refl).1 p c.0)
  where
    first_byte : (bytes : List ℕ) → has_mark bytes ≡ true → (cs : List ℕ) × (bytes ≡ 0xEF ∷ cs)
    first_byte [] e = cc
    first_byte (x ∷ []) e = cc
    first_byte (x ∷ y ∷ []) e = cc
    first_byte (x ∷ y ∷ z ∷ cs) e = (y ∷ z ∷ cs, ap (λ w. w ∷ y ∷ z ∷ cs) (is_eq x 0xEF (and_parts (x == 0xEF) (y == 0xBB && z == 0xBF) e).0))

pub written_is_read : WrittenIsRead
written_is_read = record {
  blanks = blank_piece;
  marks = mark_piece;
  names = name_piece;
  signs = λ n behind l. sign_piece (decimal n ++ behind) (digit_no_symbol (decimal n) behind (decimal_digits n) (decimal_some n (in_bits n l)));
  quotes = quoted_piece;
  variables = λ v behind apart. variable_piece (decimal v) behind (decimal_digits v) apart;
  numbers = λ n behind l apart. number_piece n (decimal n) behind (decimal_digits n) (decimal_some n (in_bits n l)) (decimal_value n (in_bits n l)) apart;
  digits_utf8 = λ n. ascii_utf8 (decimal n) (passes_ascii is_ascii_digit (decimal n) digit_ascii (decimal_digits n));
  quotes_utf8 = quotes_utf8;
  unmarked = unmarked;
  kept = λ before ps. front_names before (words ps);
}
