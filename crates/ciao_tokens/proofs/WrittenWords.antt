-- Each word is a piece before nothing, a blank or a mark.
use Rattle.std.proofs.Common.{◌≡◌, ◌≤◌, ◌⊎◌, inl, inr, ℕ, Bool, true, false, List, [], ◌∷◌, ◌++◌, length, drop, refl, sym, ap, subst, ◌∙◌, arith, append_assoc, length-append}
use Rattle.std.proofs.lemmas.Bool.{and_parts, and_from, and_right, or_cases, not-true, not_from_false, false_from_ne_true}
use Rattle.std.proofs.lemmas.Bool.Decides.{nat_tests}
use Rattle.std.proofs.lemmas.List.{length-drop}
use Rattle.std.specs.Prelude.{◌==◌, ◌&&◌, ◌||◌, not, IsUtf8, codes, flat_map}
use Rattle.std.specs.List.{list_all, list_any}
use Rattle.std.specs.Char.{is_ascii_digit, is_ascii_lowercase, is_ascii_alphabetic}
use Rattle.term_core.specs.Characters.{is_symbol, is_word_part, is_name, is_lower_word, is_symbol_run, is_solo, is_point, opens_comment}
use Rattle.term_core.specs.Printing.{escaped, in_quotes}
use Rattle.ciao_tokens.specs.Layout.{is_blank}
use Rattle.ciao_tokens.specs.Quotes.{value_of}
use Rattle.ciao_tokens.specs.Forms.{Shape, name, quoted, variable, number, mark, Mark, paren, close_paren, bracket, close_bracket, curly, close_curly, comma, bar, byte_of, starts, starts_fraction}
use Rattle.ciao_tokens.specs.Forms as form
use Rattle.ciao_tokens.specs.Pieces.{layout, token, IsPiece}
use Rattle.ciao_tokens.specs.Classes.{class_of}
use Rattle.ciao_tokens.specs.Scanning.{IsFirst, run}
use Rattle.ciao_tokens.specs.NumbersRead.{OnlyDecimal}
use Rattle.ciao_tokens.specs.Written.{IsApart}
use Rattle.ciao_tokens.specs.declared.classes.Class.TheVariants.{Blank}
use Rattle.ciao_tokens.proofs.Bytes.{same_head, same_tail}
use Rattle.ciao_tokens.proofs.ByteClasses.{is_eq, any_is as any_byte, class_lower, class_symbol, class_digit}
use Rattle.ciao_tokens.proofs.Closings.{name_closed}
use Rattle.ciao_tokens.proofs.Longest.{NoLonger, token_first}
use Rattle.ciao_tokens.proofs.NumberLaws.{decimal_number}
use Rattle.ciao_tokens.proofs.OneByteLaws.{blank_first, mark_first, solo_found}
use Rattle.ciao_tokens.proofs.PartLaws.{no_doubled}
use Rattle.ciao_tokens.proofs.Runs.{run_is, behind_is}
use Rattle.ciao_tokens.proofs.Sorts.{any_is}
use Rattle.ciao_tokens.proofs.SymbolLaws.{run_found}
use Rattle.ciao_tokens.proofs.WordLaws.{name_found, variable_found}
use Rattle.ciao_tokens.proofs.WrittenQuotes.{quotes}

-- the bytes that stand behind a word: the blanks and the marks
abbrev edges : List ℕ
edges = codes " \t\n\r()[]{},|"

abbrev is_edge : ℕ → Bool
is_edge c = list_any (λ d. c == d) edges

-- what no such byte passes does not come first
edge_stops : (test : ℕ → Bool) (behind : List ℕ) → list_all (λ c. not (test c)) edges ≡ true → IsApart behind → starts test behind ≡ false
edge_stops test [] none e = refl
edge_stops test (c ∷ cs) none e = not-true (test c) (any_is (λ d. not (test d)) c edges none e)

-- the first piece is as long as the bytes before what stands behind it
same_size : (n : ℕ) (word behind : List ℕ) → n ≤ length (word ++ behind) → behind ≡ drop n (word ++ behind) → n ≡ length word
same_size n word behind l e = omega (arith, l, ap length e, length-drop n (word ++ behind), length-append word behind)

first_token : (s : Shape) (word behind : List ℕ) → (n : ℕ) × IsFirst (token n s) (word ++ behind) behind → IsPiece (token (length word) s) (word ++ behind)
first_token s word behind (n, f) = subst (λ m. IsPiece (token m s) (word ++ behind)) (same_size n word behind f.piece.0 f.rest) f.piece

first_layout : (word behind : List ℕ) → (n : ℕ) × IsFirst (layout n) (word ++ behind) behind → IsPiece (layout (length word)) (word ++ behind)
first_layout word behind (n, f) = subst (λ m. IsPiece (layout m) (word ++ behind)) (same_size n word behind f.piece.0 f.rest) f.piece

-- blanks and marks

class_blank : (c : ℕ) → is_blank c ≡ true → class_of c ≡ Blank
class_blank c e = any_byte (λ d. class_of d ≡ Blank) c (32 ∷ 9 ∷ 10 ∷ 13 ∷ []) (refl, (refl, (refl, (refl, tt)))) (in_list (c == 32) (c == 9) (c == 10) (c == 13) e)
  where
    in_list : (s t l r : Bool) → ((s || t) || (l || r)) ≡ true → (s || (t || (l || (r || false)))) ≡ true
    in_list true t l r e = refl
    in_list false true l r e = refl
    in_list false false true r e = refl
    in_list false false false true e = refl
    in_list false false false false e = e

pub blank_piece : (c : ℕ) (behind : List ℕ) → is_blank c ≡ true → IsPiece (layout 1) (c ∷ behind)
blank_piece c behind e = first_layout (c ∷ []) behind (blank_first (c ∷ behind) behind (class_blank c e) refl)

pub mark_piece : (m : Mark) (behind : List ℕ) → IsPiece (token 1 (mark m)) (byte_of m ∷ behind)
mark_piece paren behind = first_token (mark paren) (40 ∷ []) behind (mark_first 40 (40 ∷ behind) behind (behind, refl) refl refl)
mark_piece close_paren behind = first_token (mark close_paren) (41 ∷ []) behind (mark_first 41 (41 ∷ behind) behind (behind, refl) refl refl)
mark_piece bracket behind = first_token (mark bracket) (91 ∷ []) behind (mark_first 91 (91 ∷ behind) behind (behind, refl) refl refl)
mark_piece close_bracket behind = first_token (mark close_bracket) (93 ∷ []) behind (mark_first 93 (93 ∷ behind) behind (behind, refl) refl refl)
mark_piece curly behind = first_token (mark curly) (123 ∷ []) behind (mark_first 123 (123 ∷ behind) behind (behind, refl) refl refl)
mark_piece close_curly behind = first_token (mark close_curly) (125 ∷ []) behind (mark_first 125 (125 ∷ behind) behind (behind, refl) refl refl)
mark_piece comma behind = first_token (mark comma) (44 ∷ []) behind (mark_first 44 (44 ∷ behind) behind (behind, refl) refl refl)
mark_piece bar behind = first_token (mark bar) (124 ∷ []) behind (mark_first 124 (124 ∷ behind) behind (behind, refl) refl refl)

-- names without quotes

lower_part : (c : ℕ) → is_ascii_lowercase c ≡ true → is_word_part c ≡ true
lower_part c e = grind (arith, nat_tests)

lower_piece : (word behind : List ℕ) → is_lower_word word ≡ true → starts is_word_part behind ≡ false → (n : ℕ) × IsFirst (token n (name word)) (word ++ behind) behind
lower_piece [] behind e stops = cc
lower_piece (c ∷ cs) behind e stops =
    let p = and_parts (is_ascii_lowercase c) (list_all is_word_part cs) e in
    let all = and_from (is_word_part c) (list_all is_word_part cs) (lower_part c p.0) p.1 in
    name_found (c ∷ (cs ++ behind)) (c ∷ cs) behind (class_lower c p.0) (sym (run_is is_word_part (c ∷ cs) behind all stops)) (sym (behind_is is_word_part (c ∷ cs) behind all stops))

-- no comment opens where a symbol character does not follow
no_comment : (word behind : List ℕ) → opens_comment word ≡ false → starts is_symbol behind ≡ false → opens_comment (word ++ behind) ≡ false
no_comment [] [] e stops = refl
no_comment [] (d ∷ []) e stops = refl
no_comment [] (d ∷ f ∷ ds) e stops = false_from_ne_true _ (λ g. let h : false ≡ true = sym stops ∙ ap is_symbol (is_eq d 47 (and_parts (d == 47) (f == 42) g).0) in cc)
no_comment (c ∷ []) [] e stops = refl
no_comment (c ∷ []) (d ∷ ds) e stops = false_from_ne_true _ (λ g. let h : false ≡ true = sym stops ∙ ap is_symbol (is_eq d 42 (and_parts (c == 47) (d == 42) g).1) in cc)
no_comment (c ∷ d ∷ cs) behind e stops = e

symbol_piece : (word behind : List ℕ) → is_symbol_run word ≡ true → starts is_symbol behind ≡ false → (n : ℕ) × IsFirst (token n (name word)) (word ++ behind) behind
symbol_piece [] behind e stops = cc
symbol_piece (c ∷ cs) behind e stops =
    let p = and_parts (list_all is_symbol (c ∷ cs)) (not (is_point (c ∷ cs)) && not (opens_comment (c ∷ cs))) e in
    let q = and_parts (not (is_point (c ∷ cs))) (not (opens_comment (c ∷ cs))) p.1 in
    run_found (c ∷ (cs ++ behind)) (c ∷ cs) behind (record {
      begins = class_symbol c (and_parts (is_symbol c) (list_all is_symbol cs) p.0).0;
      no_comment = no_comment (c ∷ cs) behind (not-true (opens_comment (c ∷ cs)) q.1) stops;
      word_is = sym (run_is is_symbol (c ∷ cs) behind p.0 stops);
      behind_is = sym (behind_is is_symbol (c ∷ cs) behind p.0 stops);
    }) (not-true (is_point (c ∷ cs)) q.0)

solo_piece : (word behind : List ℕ) → is_solo word ≡ true → (n : ℕ) × IsFirst (token n (name word)) (word ++ behind) behind
solo_piece [] behind e = cc
solo_piece (c ∷ []) behind e = solo_found (c ∷ behind) (c ∷ []) behind (elim (or_cases (c == 33) (c == 59) e) [ inl g ↦ ap class_of (is_eq c 33 g) | inr g ↦ ap class_of (is_eq c 59 g) ]) refl refl
solo_piece (c ∷ d ∷ cs) behind e = cc

pub name_piece : (word behind : List ℕ) → is_name word ≡ true → IsApart behind → IsPiece (token (length word) (name word)) (word ++ behind)
name_piece word behind e apart = first_token (name word) word behind (by (or_cases (is_lower_word word) _ e))
  where
    other : (is_symbol_run word ≡ true) ⊎ (is_solo word ≡ true) → (n : ℕ) × IsFirst (token n (name word)) (word ++ behind) behind
    other (inl f) = symbol_piece word behind f (edge_stops is_symbol behind refl apart)
    other (inr f) = solo_piece word behind f

    by : (is_lower_word word ≡ true) ⊎ ((is_symbol_run word || is_solo word) ≡ true) → (n : ℕ) × IsFirst (token n (name word)) (word ++ behind) behind
    by (inl f) = lower_piece word behind f (edge_stops is_word_part behind refl apart)
    by (inr f) = other (or_cases (is_symbol_run word) (is_solo word) f)

-- a sign before digits
pub sign_piece : (behind : List ℕ) → starts is_symbol behind ≡ false → IsPiece (token 1 (name (codes "-"))) (45 ∷ behind)
sign_piece behind stops = first_token (name (codes "-")) (45 ∷ []) behind (symbol_piece (45 ∷ []) behind refl stops)

-- names with quotes
pub quoted_piece : (text behind : List ℕ) → IsUtf8 text → IsApart behind → IsPiece (token (length (in_quotes text)) (quoted text)) (in_quotes text ++ behind)
quoted_piece text behind u apart =
    let q = quotes text u in
    let none = edge_stops (λ c. c == 39) behind refl apart in
    first_token (quoted text) (in_quotes text) behind
    (name_closed (in_quotes text ++ behind) (drop 1 (in_quotes text ++ behind)) q.chars (39 ∷ behind) text behind refl refl (record {
      inside = flat_map escaped text;
      means = q.inside;
      whole = append_assoc (flat_map escaped text) (39 ∷ []) behind;
      no_more = no_doubled 39 behind (omega arith) (λ e. omega (arith, e)) none;
    }) refl q.meant refl)

-- numbers

digit_part : (c : ℕ) → is_ascii_digit c ≡ true → is_word_part c ≡ true
digit_part c e = grind (arith, nat_tests)

digits_parts : (ds : List ℕ) → list_all is_ascii_digit ds ≡ true → list_all is_word_part ds ≡ true
digits_parts [] e = refl
digits_parts (d ∷ ds) e = let p = and_parts (is_ascii_digit d) (list_all is_ascii_digit ds) e in and_from (is_word_part d) (list_all is_word_part ds) (digit_part d p.0) (digits_parts ds p.1)

pub variable_piece : (ds behind : List ℕ) → list_all is_ascii_digit ds ≡ true → IsApart behind → IsPiece (token (length (95 ∷ ds)) (variable (95 ∷ ds))) ((95 ∷ ds) ++ behind)
variable_piece ds behind e apart =
    let all = digits_parts ds e in
    let stops = edge_stops is_word_part behind refl apart in
    first_token (variable (95 ∷ ds)) (95 ∷ ds) behind
    (variable_found ((95 ∷ ds) ++ behind) (95 ∷ ds) behind refl (sym (run_is is_word_part (95 ∷ ds) behind all stops)) (sym (behind_is is_word_part (95 ∷ ds) behind all stops)))

-- a digit, or what stands behind a word
abbrev is_digit_or_edge : ℕ → Bool
is_digit_or_edge c = is_ascii_digit c || is_edge c

-- the byte behind a digit
next_byte : (ds behind rest : List ℕ) (x : ℕ) → list_all is_ascii_digit ds ≡ true → IsApart behind → ds ++ behind ≡ x ∷ rest → is_digit_or_edge x ≡ true
next_byte [] [] rest x all apart e = cc
next_byte [] (c ∷ cs) rest x all apart e = ap is_digit_or_edge (sym (same_head c x cs rest e)) ∙ ap (λ b. is_ascii_digit c || b) apart ∙ right (is_ascii_digit c)
  where
    right : (b : Bool) → (b || true) ≡ true
    right true = refl
    right false = refl
next_byte (d ∷ ds) behind rest x all apart e = ap is_digit_or_edge (sym (same_head d x (ds ++ behind) rest e)) ∙ ap (λ b. b || is_edge d) (and_parts (is_ascii_digit d) (list_all is_ascii_digit ds) all).0

only_decimal : (d : ℕ) (ds behind : List ℕ) → list_all is_ascii_digit ds ≡ true → IsApart behind → OnlyDecimal (d ∷ (ds ++ behind))
only_decimal d ds behind all apart = record {
  no_hexadecimal = λ rest e digits later f h l. let g : false ≡ true = next_byte ds behind rest 120 all apart (same_tail d 48 (ds ++ behind) (120 ∷ rest) e) in cc;
  no_character = λ rest e part n later p f. let g : false ≡ true = next_byte ds behind rest 39 all apart (same_tail d 48 (ds ++ behind) (39 ∷ rest) e) in cc;
}

no_fraction : (behind : List ℕ) → IsApart behind → starts_fraction behind ≡ false
no_fraction [] apart = refl
no_fraction (c ∷ cs) apart = ap (λ b. b && starts is_ascii_digit cs) (edge_stops (λ d. d == 46) (c ∷ cs) refl apart)

digits_longest : (d : ℕ) (ds behind : List ℕ) → is_ascii_digit d ≡ true → list_all is_ascii_digit ds ≡ true → IsApart behind → NoLonger (d ∷ ds) behind
digits_longest d ds behind first all apart =
    let stops = edge_stops is_ascii_digit behind refl apart in
    subst (λ w. NoLonger (d ∷ w) behind) (run_is is_ascii_digit ds behind all stops)
    (subst (λ b. NoLonger (d ∷ run is_ascii_digit (ds ++ behind)) b) (behind_is is_ascii_digit (d ∷ ds) behind (and_from (is_ascii_digit d) (list_all is_ascii_digit ds) first all) stops)
    (decimal_number d (ds ++ behind) (class_digit d first) (only_decimal d ds behind all apart)).longest)

pub number_piece : (n : ℕ) (word behind : List ℕ) → list_all is_ascii_digit word ≡ true → 1 ≤ length word → n ≡ value_of 10 word → IsApart behind → IsPiece (token (length word) (number n)) (word ++ behind)
number_piece n [] behind all some value apart = absurd (omega (arith, some))
number_piece n (d ∷ ds) behind all some value apart =
    let p = and_parts (is_ascii_digit d) (list_all is_ascii_digit ds) all in
    (token_first (number n) (d ∷ ds) behind (d ∷ (ds ++ behind)) refl (form.decimal all some value) (digits_longest d ds behind p.0 p.1 apart)
    (and_from _ _ (not_from_false _ (edge_stops (λ c. is_ascii_alphabetic c || c == 95) behind refl apart)) (not_from_false _ (and_right (list_all is_ascii_digit (d ∷ ds)) (starts_fraction behind) (no_fraction behind apart))))).piece
