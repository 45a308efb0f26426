-- At each place of a text a piece stands, or no token begins there in one of the six ways.
use Rattle.std.proofs.Common.{arith, ◌≡◌, ◌<◌, inl, inr, ℕ, List, [], ◌∷◌, ◌++◌, take, drop, refl, ap, sym, ◌∙◌, subst, Bool, true, false}
use Rattle.std.specs.Prelude.{IsUtf8, ◌==◌, ◌&&◌, ◌||◌, nat_lt, codes, encode_utf8_all, Option, Some, None}
use Rattle.std.specs.List.{list_all, prefix_len}
use Rattle.std.specs.Char.{is_ascii}
use Rattle.std.proofs.lemmas.Bool.{or_cases, agree_below_at, eqb-true, ltb-true, true≢false, false_from_ne_true}
use Rattle.std.proofs.lemmas.Bool.Decides.{nat_tests}
use Rattle.std.proofs.lemmas.List.{append-nil, take-append-drop}
use Rattle.std.proofs.lemmas.List.Sums.{prefix_len-le-length}
use Rattle.std.proofs.lemmas.Str.{IsUtf8-drop}
use Rattle.term_core.specs.Characters.{is_symbol, is_word_part, is_point, opens_comment}
use Rattle.ciao_tokens.specs.Layout.{is_blank, closes_comment}
use Rattle.ciao_tokens.specs.Quotes.{Inside}
use Rattle.ciao_tokens.specs.Forms.{starts, ends_or_starts}
use Rattle.ciao_tokens.specs.BadTokens.{NoPart, IsQuote, open_comment, open_quotes, other_escape, lone_point, other_byte, begins_some}
use Rattle.ciao_tokens.specs.Scanning.{run, behind_run, in_line, comment_size}
use Rattle.ciao_tokens.specs.PartsRead.{ReadsParts}
use Rattle.ciao_tokens.specs.Classes.{class_of}
use Rattle.ciao_tokens.specs.declared.classes.Class.{Class}
use Rattle.ciao_tokens.specs.declared.classes.Class.TheVariants as class
use Rattle.ciao_tokens.proofs.Bytes.{single_low, single_apart, double_low, double_apart}
use Rattle.ciao_tokens.proofs.Sorts.{any_is}
use Rattle.ciao_tokens.proofs.Encodings.{utf8_tail, utf8_behind, first_char}
use Rattle.ciao_tokens.proofs.Runs.{run_behind, run_stops}
use Rattle.ciao_tokens.proofs.WordLaws.{says, name_found, variable_found, word_ascii}
use Rattle.ciao_tokens.proofs.OneByteLaws.{blank_first, blank_one, mark_first, mark_one, solo_found, solo_one}
use Rattle.ciao_tokens.proofs.CommentLaws.{line_first, line_boundary, sized, comment_inside, block_found, slash_boundary}
use Rattle.ciao_tokens.proofs.SymbolLaws.{symbol_ascii, Runs, run_found, stop_found}
use Rattle.ciao_tokens.proofs.PartLaws.{one_itself, begins_with}
use Rattle.ciao_tokens.proofs.Closings.{name_closed, text_closed}
use Rattle.ciao_tokens.proofs.QuoteScan.{Parts, parts}
use Rattle.ciao_tokens.proofs.NumberScan.{digit_found}
use Rattle.ciao_tokens.proofs.Found.{Found, bad, first_found}

-- behind a run of ASCII bytes
behind_ascii : (test : ℕ → Bool) (left : List ℕ) → list_all is_ascii (run test left) ≡ true → IsUtf8 left → IsUtf8 (behind_run test left)
behind_ascii test left low u = utf8_behind (run test left) (behind_run test left) low (subst IsUtf8 (sym (run_behind test left)) u)

-- quoted items

-- parts that no quote closes
open_found : (q : ℕ) → q < 128 → IsQuote q → (cs chars left : List ℕ) → ReadsParts q cs chars left → IsUtf8 left → starts (λ c. c == q) left ≡ false → Found (q ∷ cs)
open_found q ascii is cs chars left r u no_quote = by left refl
  where
    at_byte : (c : ℕ) (rest : List ℕ) → left ≡ c ∷ rest → (b : Bool) → (c == 92) ≡ b → Found (q ∷ cs)
    at_byte c rest e true f =
        let whole : left ≡ 92 ∷ rest = e ∙ ap (λ x. x ∷ rest) (eqb-true c 92 f) in
        bad (other_escape q r.inside chars rest is r.means (subst (NoPart q) whole r.no_more) (ap (λ x. q ∷ x) (r.whole ∙ ap (λ x. r.inside ++ x) whole)))
    at_byte c rest e false f =
        let char = first_char c rest (subst IsUtf8 e u) in
        let one = one_itself q char.char left char.rest ascii no_quote (ap (starts (λ d. d == 92)) e ∙ f) (e ∙ char.split) char.scalar in
        absurd (r.no_more one.0 (char.char ∷ []) char.rest one.1 one.2)

    by : (xs : List ℕ) → left ≡ xs → Found (q ∷ cs)
    by [] e = bad (open_quotes q cs chars is (subst (λ x. Inside q x chars) (sym (r.whole ∙ ap (λ x. r.inside ++ x) e ∙ append-nil r.inside)) r.means) refl)
    by (c ∷ rest) e = at_byte c rest e (c == 92) refl

behind_quote : (q : ℕ) (left : List ℕ) → q < 128 → starts (λ c. c == q) left ≡ true → IsUtf8 left → IsUtf8 (drop 1 left)
behind_quote q left ascii e u = utf8_tail q (drop 1 left) ascii (subst IsUtf8 (begins_with q left e) u)

name_quote_found : (cs : List ℕ) → Parts 39 single_low single_apart cs → Found (39 ∷ cs)
name_quote_found cs p = by (starts (λ c. c == 39) p.left) refl
  where
    by : (b : Bool) → starts (λ c. c == 39) p.left ≡ b → Found (39 ∷ cs)
    by true e = first_found _ (39 ∷ cs) (drop 1 p.left) (name_closed (39 ∷ cs) cs p.meant p.left (encode_utf8_all p.meant) (drop 1 p.left) refl refl p.reads e refl refl).1 (behind_quote 39 p.left single_low e p.utf8)
    by false e = open_found 39 single_low (inl refl) cs p.meant p.left p.reads p.utf8 e

text_quote_found : (cs : List ℕ) → Parts 34 double_low double_apart cs → Found (34 ∷ cs)
text_quote_found cs p = by (starts (λ c. c == 34) p.left) refl
  where
    by : (b : Bool) → starts (λ c. c == 34) p.left ≡ b → Found (34 ∷ cs)
    by true e = first_found _ (34 ∷ cs) (drop 1 p.left) (text_closed (34 ∷ cs) cs p.meant p.left p.meant (drop 1 p.left) refl refl p.reads e refl refl).1 (behind_quote 34 p.left double_low e p.utf8)
    by false e = open_found 34 double_low (inr refl) cs p.meant p.left p.reads p.utf8 e

-- symbol characters

comment_found : (left : List ℕ) → opens_comment left ≡ true → IsUtf8 left → Found left
comment_found left e u = by (comment_size (drop 2 left)) refl
  where
    inside : IsUtf8 (drop 2 left)
    inside = utf8_tail 42 (drop 2 left) (omega arith) (utf8_tail 47 (42 ∷ drop 2 left) (omega arith) (subst IsUtf8 (comment_inside left e) u))

    never : comment_size (drop 2 left) ≡ None → (n : ℕ) → closes_comment (take n (drop 2 left)) ≡ false
    never f n = false_from_ne_true _ (λ g. clash (sym f ∙ ap comment_size (sym (take-append-drop n (drop 2 left))) ∙ sized (take n (drop 2 left)) (drop n (drop 2 left)) g))
      where
        clash : {n : ℕ} → None ≡ Some n → ⊥
        clash e = cc

    by : (o : Option ℕ) → comment_size (drop 2 left) ≡ o → Found left
    by (Some n) f = first_found _ left (drop n (drop 2 left)) (block_found left (drop 2 left) (drop n (drop 2 left)) n e refl f refl).1 (IsUtf8-drop (drop 2 left) n inside (slash_boundary (drop 2 left) n inside f))
    by None f = bad (open_comment (drop 2 left) (comment_inside left e) (never f))

symbols_found : (left : List ℕ) → Runs left (run is_symbol left) (behind_run is_symbol left) → IsUtf8 left → Found left
symbols_found left r u = by (is_point (run is_symbol left)) refl (ends_or_starts (λ c. is_blank c || c == 37) (behind_run is_symbol left)) refl
  where
    text : IsUtf8 (behind_run is_symbol left)
    text = behind_ascii is_symbol left (symbol_ascii left) u

    point : (word : List ℕ) → is_point word ≡ true → word ≡ 46 ∷ []
    point [] e = absurd (true≢false (sym e))
    point (c ∷ []) e = ap (λ x. x ∷ []) (eqb-true c 46 e)
    point (c ∷ d ∷ cs) e = absurd (true≢false (sym e))

    by : (p : Bool) → is_point (run is_symbol left) ≡ p → (s : Bool) → ends_or_starts (λ c. is_blank c || c == 37) (behind_run is_symbol left) ≡ s → Found left
    by false e s f = first_found _ left (behind_run is_symbol left) (run_found left (run is_symbol left) (behind_run is_symbol left) r e).1 text
    by true e true f = first_found _ left (behind_run is_symbol left) (stop_found left (run is_symbol left) (behind_run is_symbol left) r e f).1 text
    by true e false f = bad (lone_point (behind_run is_symbol left) (sym (run_behind is_symbol left) ∙ ap (λ x. x ++ behind_run is_symbol left) (point (run is_symbol left) e)) (run_stops is_symbol left) f)

symbol_found : (c : ℕ) (cs : List ℕ) → class_of c ≡ class.Symbol → IsUtf8 (c ∷ cs) → Found (c ∷ cs)
symbol_found c cs k u = by (opens_comment (c ∷ cs)) refl
  where
    by : (b : Bool) → opens_comment (c ∷ cs) ≡ b → Found (c ∷ cs)
    by true e = comment_found (c ∷ cs) e u
    by false e = symbols_found (c ∷ cs) (record { begins = k; no_comment = e; word_is = refl; behind_is = refl }) u

-- a byte of another class begins nothing

abbrev is_other : Class → Bool
is_other class.Other = true
is_other class.Lower = false
is_other class.Upper = false
is_other class.Digit = false
is_other class.Symbol = false
is_other class.Blank = false
is_other class.Sign = false
is_other class.Solo = false
is_other class.Percent = false
is_other class.Quote = false
is_other class.DoubleQuote = false

word_low : (c : ℕ) → is_word_part c ≡ true → nat_lt c 128 ≡ true
word_low c e = grind (arith, nat_tests)

blank_low : (c : ℕ) → is_blank c ≡ true → nat_lt c 128 ≡ true
blank_low c e = grind (arith, nat_tests)

begins_low : (c : ℕ) → begins_some c ≡ true → nat_lt c 128 ≡ true
begins_low c e = elim (or_cases (is_word_part c) _ e) [
  | inl f ↦ word_low c f
  | inr f ↦ elim (or_cases (is_symbol c) _ f) [
    | inl g ↦ any_is (λ x. nat_lt x 128) c (codes "+-*/\\^<>=~:.?@#&$") refl g
    | inr g ↦ elim (or_cases (is_blank c) _ g) [ inl h ↦ blank_low c h | inr h ↦ any_is (λ x. nat_lt x 128) c (codes "!;()[]{},|%'\"") refl h ]
  ]
]

other_begins : (c : ℕ) → class_of c ≡ class.Other → begins_some c ≡ false
other_begins c k = false_from_ne_true (begins_some c) (λ e. true≢false (sym (ap is_other k) ∙ not_other e))
  where
    not_other : begins_some c ≡ true → is_other (class_of c) ≡ false
    not_other e = ap (λ b. b && is_other (class_of c)) (sym e) ∙ agree_below_at (λ x. begins_some x && is_other (class_of x)) (λ x. false) 128 c refl (ltb-true c 128 (begins_low c e))

-- each class

pub found : (c : ℕ) (cs : List ℕ) → IsUtf8 (c ∷ cs) → Found (c ∷ cs)
found c cs u = by (class_of c) refl
  where
    left : List ℕ
    left = c ∷ cs

    line : IsUtf8 (behind_run in_line left)
    line = IsUtf8-drop left (prefix_len in_line left) u (line_boundary left (prefix_len in_line left) refl (prefix_len-le-length in_line left))

    by : (k : Class) → class_of c ≡ k → Found left
    by class.Lower k = first_found _ left (behind_run is_word_part left) (name_found left (run is_word_part left) (behind_run is_word_part left) k refl refl).1 (behind_ascii is_word_part left (word_ascii left) u)
    by class.Upper k = first_found _ left (behind_run is_word_part left) (variable_found left (run is_word_part left) (behind_run is_word_part left) k refl refl).1 (behind_ascii is_word_part left (word_ascii left) u)
    by class.Digit k = digit_found c cs k u
    by class.Symbol k = symbol_found c cs k u
    by class.Blank k = first_found _ left cs (blank_first left cs k refl).1 (utf8_behind (c ∷ []) cs (blank_one left k) u)
    by class.Sign k = first_found _ left cs (mark_first c left cs (cs, refl) k refl).1 (utf8_behind (c ∷ []) cs (mark_one c left (cs, refl) k) u)
    by class.Solo k = first_found _ left cs (solo_found left (c ∷ []) cs k refl refl).1 (utf8_behind (c ∷ []) cs (solo_one left k) u)
    by class.Percent k = first_found _ left (behind_run in_line left) (line_first left (behind_run in_line left) k refl).1 line
    by class.Quote k =
        let is = says c class.Quote k in
        subst (λ x. Found (x ∷ cs)) (sym is) (name_quote_found cs (parts 39 single_low single_apart cs (utf8_tail c cs (omega (arith, is)) u)))
    by class.DoubleQuote k =
        let is = says c class.DoubleQuote k in
        subst (λ x. Found (x ∷ cs)) (sym is) (text_quote_found cs (parts 34 double_low double_apart cs (utf8_tail c cs (omega (arith, is)) u)))
    by class.Other k = bad (other_byte c cs (other_begins c k) refl)
