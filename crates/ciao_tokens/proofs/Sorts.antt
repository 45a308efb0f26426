-- The first byte of a token tells its sort.
use Rattle.std.proofs.Common.{arith, ◌≡◌, ◌≤◌, ◌⊎◌, inl, inr, ℕ, List, [], ◌∷◌, ◌++◌, refl, ap, sym, ◌∙◌, Bool, true, false}
use Rattle.std.specs.Prelude.{◌&&◌, ◌||◌, ◌==◌, if◌then◌else◌, codes}
use Rattle.std.specs.List.{list_any, list_all}
use Rattle.std.specs.Char.{is_ascii_lowercase, is_ascii_uppercase, is_ascii_digit}
use Rattle.std.proofs.lemmas.Bool.{and_parts, eqb-true, leb-true, agree_below_at, or_cases, true≢false}
use Rattle.std.specs.Prelude.{nat_le as leb}
use Rattle.ciao_tokens.proofs.Bytes.{same_head, not_empty}
use Rattle.term_core.specs.Characters.{is_symbol, is_name, is_lower_word, is_upper_word, is_symbol_run, is_solo}
use Rattle.ciao_tokens.specs.Forms.{Shape, name, quoted, variable, number, text, mark, stop, Form, IsNumber, decimal, hexadecimal, character, Mark, paren, close_paren, bracket, close_bracket, curly, close_curly, comma, bar, byte_of}

-- by the first byte: what sort of token it begins
abbrev pub sort_of : Shape → ℕ
sort_of (name w) = 0
sort_of (quoted w) = 1
sort_of (variable w) = 2
sort_of (number n) = 3
sort_of (text cs) = 4
sort_of (mark m) = 5
sort_of stop = 0

no_number : (n : ℕ) → IsNumber [] n → ⊥
no_number n (decimal d l e) = absurd (by l)
  where
    by : 1 ≤ 0 → ⊥
    by l = omega (arith, l)
no_number n (hexadecimal ds h l e g) = not_empty 48 (120 ∷ ds) e
no_number n (character part q e) = not_empty 48 (39 ∷ part) e

pub no_empty : (s : Shape) → Form s [] → ⊥
no_empty (name w) f = true≢false (sym f.1)
no_empty (quoted w) f = not_empty 39 (f.0 ++ 39 ∷ []) f.2
no_empty (variable w) f = true≢false (sym f.1)
no_empty (number n) f = no_number n f
no_empty (text cs) f = not_empty 34 (f.0 ++ 34 ∷ []) f.1
no_empty (mark m) f = not_empty (byte_of m) [] f
no_empty stop f = not_empty 46 [] f

-- the sort of a token by its first byte; a `.` alone is no name
abbrev pub sort_byte : ℕ → ℕ
sort_byte c =
    if c == 39 then 1
    else if is_ascii_uppercase c || c == 95 then 2
    else if is_ascii_digit c then 3
    else if c == 34 then 4
    else if list_any (λ d. c == d) (40 ∷ 41 ∷ 91 ∷ 93 ∷ 123 ∷ 125 ∷ 44 ∷ 124 ∷ []) then 5
    else if list_any (λ d. c == d) (32 ∷ 9 ∷ 10 ∷ 13 ∷ 37 ∷ []) then 6
    else 0

pub any_is : (test : ℕ → Bool) (c : ℕ) (ds : List ℕ) → list_all test ds ≡ true → list_any (λ d. c == d) ds ≡ true → test c ≡ true
any_is test c [] h e = absurd (true≢false (sym e))
any_is test c (d ∷ ds) h e = by (c == d) refl e (any_is test c ds (and_parts _ _ h).1)
  where
    by : (b : Bool) → b ≡ (c == d) → (b || list_any (λ x. c == x) ds) ≡ true → (list_any (λ x. c == x) ds ≡ true → test c ≡ true) → test c ≡ true
    by true g f r = ap test (eqb-true c d (sym g)) ∙ (and_parts _ _ h).0
    by false g f r = r f

pub symbol_sort : (c : ℕ) → is_symbol c ≡ true → sort_byte c ≡ 0
symbol_sort c e = eqb-true _ _ (any_is (λ d. sort_byte d == 0) c (codes "+-*/\\^<>=~:.?@#&$") refl e)

mark_sort : (m : Mark) → sort_byte (byte_of m) ≡ 5
mark_sort paren = refl
mark_sort close_paren = refl
mark_sort bracket = refl
mark_sort close_bracket = refl
mark_sort curly = refl
mark_sort close_curly = refl
mark_sort comma = refl
mark_sort bar = refl

abbrev mark_at : ℕ → Mark
mark_at c =
    if c == 40 then paren
    else if c == 41 then close_paren
    else if c == 91 then bracket
    else if c == 93 then close_bracket
    else if c == 123 then curly
    else if c == 125 then close_curly
    else if c == 44 then comma
    else bar

marked : (m : Mark) → mark_at (byte_of m) ≡ m
marked paren = refl
marked close_paren = refl
marked bracket = refl
marked close_bracket = refl
marked curly = refl
marked close_curly = refl
marked comma = refl
marked bar = refl

pub same_mark : (m n : Mark) → byte_of m ≡ byte_of n → m ≡ n
same_mark m n e = sym (marked m) ∙ ap mark_at e ∙ marked n

pub within : (low high c : ℕ) → (leb low c && leb c high) ≡ true → c ≤ high
within low high c e = leb-true _ _ (and_parts _ _ e).1

pub lower_sort : (c : ℕ) → is_ascii_lowercase c ≡ true → (sort_byte c == 0) ≡ true
lower_sort c e = (and_parts _ _ (agree_below_at (λ x. is_ascii_lowercase x && (sort_byte x == 0)) is_ascii_lowercase 256 c refl (omega (arith, within 97 122 c e)) ∙ e)).1

pub digit_sort : (c : ℕ) → is_ascii_digit c ≡ true → (sort_byte c == 3) ≡ true
digit_sort c e = (and_parts _ _ (agree_below_at (λ x. is_ascii_digit x && (sort_byte x == 3)) is_ascii_digit 256 c refl (omega (arith, within 48 57 c e)) ∙ e)).1

pub upper_sort : (c : ℕ) → is_ascii_uppercase c ≡ true → (sort_byte c == 2) ≡ true
upper_sort c e = (and_parts _ _ (agree_below_at (λ x. is_ascii_uppercase x && (sort_byte x == 2)) is_ascii_uppercase 256 c refl (omega (arith, within 65 90 c e)) ∙ e)).1

-- a number begins with a digit
number_sort : (c : ℕ) (cs : List ℕ) (n : ℕ) → IsNumber (c ∷ cs) n → sort_byte c ≡ 3
number_sort c cs n (decimal d l e) = eqb-true _ _ (digit_sort c (and_parts _ _ d).0)
number_sort c cs n (hexadecimal ds h l e g) = ap sort_byte (same_head c 48 cs (120 ∷ ds) e)
number_sort c cs n (character part q e) = ap sort_byte (same_head c 48 cs (39 ∷ part) e)

solo_sort : (c : ℕ) (cs : List ℕ) → is_solo (c ∷ cs) ≡ true → sort_byte c ≡ 0
solo_sort c [] e = elim (or_cases (c == 33) (c == 59) e) [ inl g ↦ ap sort_byte (eqb-true c 33 g) | inr g ↦ ap sort_byte (eqb-true c 59 g) ]
solo_sort c (d ∷ cs) e = absurd (true≢false (sym e))

name_sort : (c : ℕ) (cs : List ℕ) → is_name (c ∷ cs) ≡ true → sort_byte c ≡ 0
name_sort c cs e = by (or_cases _ _ e)
  where
    rest : (is_symbol_run (c ∷ cs) ≡ true) ⊎ (is_solo (c ∷ cs) ≡ true) → sort_byte c ≡ 0
    rest (inl g) = symbol_sort c (and_parts _ _ (and_parts _ _ g).0).0
    rest (inr g) = solo_sort c cs g

    by : (is_lower_word (c ∷ cs) ≡ true) ⊎ ((is_symbol_run (c ∷ cs) || is_solo (c ∷ cs)) ≡ true) → sort_byte c ≡ 0
    by (inl g) = eqb-true _ _ (lower_sort c (and_parts _ _ g).0)
    by (inr g) = rest (or_cases _ _ g)

variable_sort : (c : ℕ) (cs : List ℕ) → is_upper_word (c ∷ cs) ≡ true → sort_byte c ≡ 2
variable_sort c cs e = elim (or_cases (is_ascii_uppercase c) (c == 95) (and_parts _ _ e).0) [ inl g ↦ eqb-true _ _ (upper_sort c g) | inr g ↦ ap sort_byte (eqb-true c 95 g) ]

-- the first byte of a token has its sort
pub form_sort : (s : Shape) (c : ℕ) (cs : List ℕ) → Form s (c ∷ cs) → sort_byte c ≡ sort_of s
form_sort (name w) c cs f = name_sort c cs f.1
form_sort (quoted w) c cs f = ap sort_byte (same_head c 39 cs (f.0 ++ 39 ∷ []) f.2)
form_sort (variable w) c cs f = variable_sort c cs f.1
form_sort (number n) c cs f = number_sort c cs n f
form_sort (text t) c cs f = ap sort_byte (same_head c 34 cs (f.0 ++ 34 ∷ []) f.1)
form_sort (mark m) c cs f = ap sort_byte (same_head c (byte_of m) cs [] f) ∙ mark_sort m
form_sort stop c cs f = ap sort_byte (same_head c 46 cs [] f)
