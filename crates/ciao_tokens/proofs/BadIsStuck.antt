-- In each of the six ways no piece stands.
use Rattle.std.proofs.Common.{arith, ◌≡◌, ◌≢◌, ◌<◌, ◌≤◌, ◌⊎◌, inl, inr, ℕ, List, [], ◌∷◌, ◌++◌, length, take, drop, refl, ap, sym, ◌∙◌, subst, true, false}
use Rattle.std.specs.Prelude.{◌==◌, ◌&&◌, ◌||◌, not, Option, Some, None}
use Rattle.std.specs.List.{list_all}
use Rattle.std.specs.Char.{is_ascii_digit, is_ascii_lowercase, is_ascii_uppercase, is_ascii_alphabetic}
use Rattle.std.proofs.Math.Seq.{take-nil}
use Rattle.std.proofs.lemmas.Bool.{and_parts, and_left, eqb-true, or_cases, or_left, or_right, true≢false}
use Rattle.std.proofs.lemmas.Bool.Decides.{nat_tests}
use Rattle.std.proofs.lemmas.List.{append_assoc, append-nil}
use Rattle.term_core.specs.Characters.{is_symbol, is_word_part, opens_comment}
use Rattle.ciao_tokens.specs.Layout.{is_layout, is_blank, closes_comment}
use Rattle.ciao_tokens.specs.Quotes.{Inside, value_of}
use Rattle.ciao_tokens.specs.Forms.{Shape, number, Form, IsNumber, decimal, hexadecimal, character, stands, starts, ends_or_starts, starts_fraction}
use Rattle.ciao_tokens.specs.Pieces.{Fits, Piece, layout, token, IsPiece, IsLongest, IsStuck}
use Rattle.ciao_tokens.specs.BadTokens.{NoPart, IsQuote, IsBad, open_comment, open_quotes, other_escape, lone_point, number_letter, fraction, other_byte, begins_some}
use Rattle.ciao_tokens.specs.Scanning.{comment_size}
use Rattle.ciao_tokens.specs.Classes.{class_of}
use Rattle.ciao_tokens.specs.declared.classes.Class.{Class}
use Rattle.ciao_tokens.specs.declared.classes.Class.TheVariants as class
use Rattle.ciao_tokens.proofs.Bytes.{same_head, same_tail, not_empty, single_low, single_apart, double_low, double_apart}
use Rattle.ciao_tokens.proofs.Sorts.{no_empty, any_is, within}
use Rattle.ciao_tokens.proofs.ByteClasses.{Says, class_says, class_digit}
use Rattle.ciao_tokens.proofs.FirstBytes.{TokenBy, LayoutBy, token_by, layout_by}
use Rattle.ciao_tokens.proofs.Runs.{run_is, behind_is}
use Rattle.ciao_tokens.proofs.Longest.{is_longest, take_word, drop_word, word_within, stuck_any}
use Rattle.ciao_tokens.proofs.OneByteLaws.{other_stuck}
use Rattle.ciao_tokens.proofs.CommentLaws.{closing, block_stuck}
use Rattle.ciao_tokens.proofs.SymbolLaws.{nothing_found}
use Rattle.ciao_tokens.proofs.OneMeaning.{not_nothing}
use Rattle.ciao_tokens.proofs.OneForm.{one_shape, no_layout}
use Rattle.ciao_tokens.proofs.OneCut.{one_size}
use Rattle.ciao_tokens.proofs.QuoteLaws.{StartsQuote, only_doubled}

-- an unclosed comment

comment_stuck : (rest : List ℕ) → ((n : ℕ) → closes_comment (take n rest) ≡ false) → IsStuck (47 ∷ 42 ∷ rest)
comment_stuck rest unclosed = block_stuck rest (by (comment_size rest) refl)
  where
    by : (o : Option ℕ) → comment_size rest ≡ o → comment_size rest ≡ None
    by None e = e
    by (Some n) e = absurd (true≢false (sym (closing rest n e).closes ∙ unclosed n))

-- an unclosed quoted item or another escape

-- a front that closes is followed by the quote
closed_front : (q : ℕ) (ascii : q < 128) (apart : q ≢ 92) (inside meant r cs : List ℕ) → Inside q inside meant → NoPart q r → ((t : List ℕ) → r ≡ q ∷ t → ⊥) → cs ≡ inside ++ r
    → (xs behind within means : List ℕ) → cs ≡ xs ++ behind → xs ≡ within ++ q ∷ [] → Inside q within means → StartsQuote q ascii apart behind
closed_front q ascii apart inside meant r cs i none unclosed whole xs behind within means e f j =
    only_doubled q ascii apart i j r behind (sym whole ∙ e ∙ ap (λ x. x ++ behind) f ∙ append_assoc within (q ∷ []) behind) none unclosed

name_quote_stuck : (inside meant r cs : List ℕ) → Inside 39 inside meant → NoPart 39 r → ((t : List ℕ) → r ≡ 39 ∷ t → ⊥) → cs ≡ inside ++ r → IsStuck (39 ∷ cs)
name_quote_stuck inside meant r cs i none unclosed whole = stuck_any 39 cs no_token (λ xs behind e f. layout_by 39 xs f)
  where
    no_token : (s : Shape) (xs behind : List ℕ) → cs ≡ xs ++ behind → Form s (39 ∷ xs) → stands s (39 ∷ xs) behind ≡ true → ⊥
    no_token s xs behind e f may =
        let (word, within, means, is, g, j) = token_by s 39 xs f in
        true≢false (sym (ap (λ x. stands x (39 ∷ xs) behind) (sym is) ∙ may) ∙ ap not (closed_front 39 single_low single_apart inside meant r cs i none unclosed whole xs behind within means e g j))

text_quote_stuck : (inside meant r cs : List ℕ) → Inside 34 inside meant → NoPart 34 r → ((t : List ℕ) → r ≡ 34 ∷ t → ⊥) → cs ≡ inside ++ r → IsStuck (34 ∷ cs)
text_quote_stuck inside meant r cs i none unclosed whole = stuck_any 34 cs no_token (λ xs behind e f. layout_by 34 xs f)
  where
    no_token : (s : Shape) (xs behind : List ℕ) → cs ≡ xs ++ behind → Form s (34 ∷ xs) → stands s (34 ∷ xs) behind ≡ true → ⊥
    no_token s xs behind e f may =
        let (within, means, is, g, j) = token_by s 34 xs f in
        true≢false (sym (ap (λ x. stands x (34 ∷ xs) behind) (sym is) ∙ may) ∙ ap not (closed_front 34 double_low double_apart inside meant r cs i none unclosed whole xs behind within means e g j))

pub quote_stuck : (q : ℕ) → IsQuote q → (inside meant r cs : List ℕ) → Inside q inside meant → NoPart q r → ((t : List ℕ) → r ≡ q ∷ t → ⊥) → cs ≡ inside ++ r → IsStuck (q ∷ cs)
quote_stuck q (inl e) inside meant r cs =
    subst (λ x. Inside x inside meant → NoPart x r → ((t : List ℕ) → r ≡ x ∷ t → ⊥) → cs ≡ inside ++ r → IsStuck (x ∷ cs)) (sym e) (name_quote_stuck inside meant r cs)
quote_stuck q (inr e) inside meant r cs =
    subst (λ x. Inside x inside meant → NoPart x r → ((t : List ℕ) → r ≡ x ∷ t → ⊥) → cs ≡ inside ++ r → IsStuck (x ∷ cs)) (sym e) (text_quote_stuck inside meant r cs)

-- a single `.`

no_comment : (rest : List ℕ) → opens_comment (46 ∷ rest) ≡ false
no_comment [] = refl
no_comment (c ∷ cs) = refl

point_stuck : (rest : List ℕ) → starts is_symbol rest ≡ false → ends_or_starts (λ c. is_blank c || c == 37) rest ≡ false → IsStuck (46 ∷ rest)
point_stuck rest e f = nothing_found (46 ∷ rest) (46 ∷ []) rest (record {
  begins = refl;
  no_comment = no_comment rest;
  word_is = sym (run_is is_symbol (46 ∷ []) rest refl e);
  behind_is = sym (behind_is is_symbol (46 ∷ []) rest refl e);
}) refl f

-- a number that may not stand before what is behind it

pub number_stuck : (left : List ℕ) (n value : ℕ) → n ≤ length left → IsNumber (take n left) value → IsLongest n left → stands (number value) (take n left) (drop n left) ≡ false → IsStuck left
number_stuck left n value fits is longest may_not = (λ e. no_empty (number value) (subst (λ x. IsNumber x value) (ap (take n) e ∙ take-nil n) is), none)
  where
    at : (m : ℕ) (s : Shape) → m ≡ n → Form s (take m left) → stands s (take m left) (drop m left) ≡ true → ⊥
    at m s e f may =
        let here : Form s (take n left) = subst (λ k. Form s (take k left)) e f in
        let stands_here : stands s (take n left) (drop n left) ≡ true = subst (λ k. stands s (take k left) (drop k left) ≡ true) e may in
        true≢false (sym stands_here ∙ ap (λ x. stands x (take n left) (drop n left)) (one_shape (take n left) s (number value) here is) ∙ may_not)

    none : (p : Piece) → IsPiece p left → ⊥
    none (layout m) a =
        let e = one_size m n left a.0 fits a.2 longest (inl a.1) (inr (number value, is)) in no_layout (take n left) (number value) (subst (λ k. is_layout (take k left) ≡ true) e a.1) is
    none (token m s) a = at m s (one_size m n left a.0 fits a.2 longest (inr (s, a.1)) (inr (number value, is))) a.1 a.3

letter_stuck : (left : List ℕ) (n value : ℕ) → n ≤ length left → IsNumber (take n left) value → IsLongest n left → starts (λ c. is_ascii_alphabetic c || c == 95) (drop n left) ≡ true → IsStuck left
letter_stuck left n value fits is longest letter = number_stuck left n value fits is longest (and_left _ _ (ap not letter))

-- digits before a fraction are the longest

digits_end : (ds more : List ℕ) (c : ℕ) → is_ascii_digit c ≡ false → list_all is_ascii_digit (ds ++ c ∷ more) ≡ true → ⊥
digits_end [] more c other e = true≢false (sym (and_parts (is_ascii_digit c) _ e).0 ∙ other)
digits_end (d ∷ ds) more c other e = digits_end ds more c other (and_parts (is_ascii_digit d) _ e).1

-- digits and another byte are no number in which this byte comes second
second_byte : (ds more rest : List ℕ) (c : ℕ) → list_all is_ascii_digit ds ≡ true → 1 ≤ length ds → is_ascii_digit c ≡ false → c ≢ 46 → ds ++ 46 ∷ more ≡ 48 ∷ c ∷ rest → ⊥
second_byte [] more rest c all some other apart e = absurd (omega (arith, some))
second_byte (d ∷ []) more rest c all some other apart e = apart (sym (same_head 46 c more rest (same_tail d 48 (46 ∷ more) (c ∷ rest) e)))
second_byte (d ∷ x ∷ ds) more rest c all some other apart e =
    true≢false (sym (and_parts (is_ascii_digit x) _ (and_parts (is_ascii_digit d) _ all).1).0 ∙ ap is_ascii_digit (same_head x c (ds ++ 46 ∷ more) rest (same_tail d 48 (x ∷ ds ++ 46 ∷ more) (c ∷ rest) e)) ∙ other)

no_point_number : (ds more : List ℕ) (n : ℕ) → list_all is_ascii_digit ds ≡ true → 1 ≤ length ds → IsNumber (ds ++ 46 ∷ more) n → ⊥
no_point_number ds more n all some (decimal d l e) = digits_end ds more 46 refl d
no_point_number ds more n all some (hexadecimal hs h l e g) = second_byte ds more hs 120 all some refl (λ x. omega (arith, x)) e
no_point_number ds more n all some (character part p e) = second_byte ds more part 39 all some refl (λ x. omega (arith, x)) e

no_point_fits : (ds more : List ℕ) → list_all is_ascii_digit ds ≡ true → 1 ≤ length ds → Fits (ds ++ 46 ∷ more) → ⊥
no_point_fits [] more all some f = absurd (omega (arith, some))
no_point_fits (d ∷ ds) more all some f = by (class_digit d (and_parts (is_ascii_digit d) _ all).0) f
  where
    by : class_of d ≡ class.Digit → Fits (d ∷ ds ++ 46 ∷ more) → ⊥
    by k (inl e) = subst (λ x. LayoutBy x d (ds ++ 46 ∷ more)) k (layout_by d (ds ++ 46 ∷ more) e)
    by k (inr (s, f)) = let (n, is, g) = subst (λ x. TokenBy x s d (ds ++ 46 ∷ more)) k (token_by s d (ds ++ 46 ∷ more) f) in no_point_number (d ∷ ds) more n all some g

fraction_stuck : (ds rest : List ℕ) → list_all is_ascii_digit ds ≡ true → 1 ≤ length ds → starts_fraction rest ≡ true → IsStuck (ds ++ rest)
fraction_stuck ds [] all some f = absurd (true≢false (sym f))
fraction_stuck ds (c ∷ cs) all some f = subst (λ x. IsStuck (ds ++ x ∷ cs)) (sym (eqb-true c 46 (and_parts (c == 46) _ f).0)) at_point
  where
    left : List ℕ
    left = ds ++ 46 ∷ cs

    number_is : IsNumber (take (length ds) left) (value_of 10 ds)
    number_is = subst (λ x. IsNumber x (value_of 10 ds)) (sym (take_word ds (46 ∷ cs))) (decimal all some refl)

    may_not : stands (number (value_of 10 ds)) (take (length ds) left) (drop (length ds) left) ≡ false
    may_not = ap (λ x. stands (number (value_of 10 ds)) x (drop (length ds) left)) (take_word ds (46 ∷ cs)) ∙ ap (λ x. stands (number (value_of 10 ds)) ds x) (drop_word ds (46 ∷ cs))
        ∙ ap (λ x. not (x && starts is_ascii_digit cs)) all ∙ ap not (and_parts (c == 46) _ f).1

    longest : IsLongest (length ds) left
    longest = is_longest ds (46 ∷ cs) (λ b more later e g. no_point_fits ds more all some (subst (λ x. Fits (ds ++ x ∷ more)) (sym (same_head 46 b cs (more ++ later) e)) g))

    at_point : IsStuck left
    at_point = number_stuck left (length ds) (value_of 10 ds) (word_within ds (46 ∷ cs)) number_is longest may_not

-- a byte that begins no token

lower_begins : (c : ℕ) → is_ascii_lowercase c ≡ true → is_word_part c ≡ true
lower_begins c e = grind (arith, nat_tests)

upper_begins : (c : ℕ) → (is_ascii_uppercase c || c == 95) ≡ true → is_word_part c ≡ true
upper_begins c e = grind (arith, nat_tests)

digit_begins : (c : ℕ) → is_ascii_digit c ≡ true → is_word_part c ≡ true
digit_begins c e = grind (arith, nat_tests)

-- a byte of each class but the last begins something
some_begins : (c : ℕ) (k : Class) → Says c k → (begins_some c ≡ true) ⊎ (k ≡ class.Other)
some_begins c class.Lower e = inl (or_left _ _ (lower_begins c e))
some_begins c class.Upper e = inl (or_left _ _ (upper_begins c e))
some_begins c class.Digit e = inl (or_left _ _ (digit_begins c e))
some_begins c class.Symbol e = inl (or_right _ _ (or_left _ _ e))
some_begins c class.Blank e = inl (or_right _ _ (or_right _ _ (or_left _ _ e)))
some_begins c class.Sign e = inl (any_is begins_some c (40 ∷ 41 ∷ 91 ∷ 93 ∷ 123 ∷ 125 ∷ 44 ∷ 124 ∷ []) refl e)
some_begins c class.Solo e = inl (elim (or_cases (c == 33) (c == 59) e) [ inl g ↦ ap begins_some (eqb-true c 33 g) | inr g ↦ ap begins_some (eqb-true c 59 g) ])
some_begins c class.Percent e = inl (ap begins_some e)
some_begins c class.Quote e = inl (ap begins_some e)
some_begins c class.DoubleQuote e = inl (ap begins_some e)
some_begins c class.Other e = inr refl

byte_stuck : (c : ℕ) (cs : List ℕ) → begins_some c ≡ false → IsStuck (c ∷ cs)
byte_stuck c cs none = by (some_begins c (class_of c) (class_says c))
  where
    by : (begins_some c ≡ true) ⊎ (class_of c ≡ class.Other) → IsStuck (c ∷ cs)
    by (inl e) = absurd (true≢false (sym e ∙ none))
    by (inr e) = other_stuck c (c ∷ cs) (cs, refl) e

-- each of the six

not_backslash : (q : ℕ) → IsQuote q → q ≢ 92
not_backslash q (inl e) f = omega (arith, e, f)
not_backslash q (inr e) f = omega (arith, e, f)

low : (q : ℕ) → IsQuote q → q < 128
low q (inl e) = omega (arith, e)
low q (inr e) = omega (arith, e)

pub bad_is_stuck : (left : List ℕ) → IsBad left → IsStuck left
bad_is_stuck left (open_comment rest e unclosed) = subst IsStuck (sym e) (comment_stuck rest unclosed)
bad_is_stuck left (open_quotes q inside meant is i e) =
    subst IsStuck (sym e) (quote_stuck q is inside meant [] inside i (λ part m rest p f. not_nothing q (low q is) (not_backslash q is) p rest f) (λ t f. not_empty q t f) (sym (append-nil inside)))
bad_is_stuck left (other_escape q inside meant rest is i none e) =
    subst IsStuck (sym e) (quote_stuck q is inside meant (92 ∷ rest) (inside ++ (92 ∷ rest)) i none (λ t f. not_backslash q is (sym (same_head 92 q rest t f))) refl)
bad_is_stuck left (lone_point rest e no_symbol no_end) = subst IsStuck (sym e) (point_stuck rest no_symbol no_end)
bad_is_stuck left (number_letter n value fits is longest letter) = letter_stuck left n value fits is longest letter
bad_is_stuck left (fraction ds rest all some f e) = subst IsStuck (sym e) (fraction_stuck ds rest all some f)
bad_is_stuck left (other_byte c rest none e) = subst IsStuck (sym e) (byte_stuck c rest none)
