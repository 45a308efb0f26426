-- What stands where a digit does.
use Rattle.std.proofs.Common.{arith, ◌≡◌, ◌≤◌, ℕ, suc, zero, List, [], ◌∷◌, ◌++◌, length, refl, ap, sym, ◌∙◌, subst, Bool, true, false}
use Rattle.std.specs.Prelude.{IsUtf8, ◌==◌, ◌&&◌, ◌||◌}
use Rattle.std.specs.List.{list_all}
use Rattle.std.specs.Char.{is_ascii, is_ascii_digit, is_ascii_hexdigit, is_ascii_alphabetic}
use Rattle.std.proofs.lemmas.Bool.{and_from, eqb-true, eqb-false, not_from_false}
use Rattle.std.proofs.lemmas.Bool.Decides.{nat_tests}
use Rattle.ciao_tokens.specs.Quotes.{Part, itself, doubled, escape, code, continued, value_of}
use Rattle.ciao_tokens.specs.Forms.{number, IsNumber, starts, starts_fraction}
use Rattle.ciao_tokens.specs.BadTokens.{number_letter, fraction}
use Rattle.ciao_tokens.specs.Scanning.{run, behind_run}
use Rattle.ciao_tokens.specs.NumbersRead.{OnlyDecimal}
use Rattle.ciao_tokens.specs.Classes.{class_of}
use Rattle.ciao_tokens.specs.declared.classes.Class.TheVariants as class
use Rattle.ciao_tokens.proofs.Bytes.{same_head, same_tail, not_empty, single_low, single_apart}
use Rattle.ciao_tokens.proofs.Sorts.{no_empty}
use Rattle.ciao_tokens.proofs.Encodings.{utf8_tail, run_utf8}
use Rattle.ciao_tokens.proofs.Longest.{is_longest, take_word, drop_word, word_within, token_first}
use Rattle.ciao_tokens.proofs.Runs.{run_one, run_behind}
use Rattle.ciao_tokens.proofs.WordLaws.{says}
use Rattle.ciao_tokens.proofs.NumberLaws.{Number, hexadecimal_number, no_digits, character_number, no_char, decimal_number}
use Rattle.ciao_tokens.proofs.QuoteScan.{Next, one, none, next}
use Rattle.ciao_tokens.proofs.Found.{Found, bad, first_found}

some_bytes : (word : List ℕ) (n : ℕ) → IsNumber word n → 1 ≤ length word
some_bytes [] n e = absurd (no_empty (number n) e)
some_bytes (c ∷ cs) n e = omega arith

-- a number that does not go on stands there, or one of two ways in which it may not
number_found : (word behind left : List ℕ) (value : ℕ) → left ≡ word ++ behind → Number word behind value → IsUtf8 behind → Found left
number_found word behind left value whole n u = by (starts (λ c. is_ascii_alphabetic c || c == 95) behind) refl (list_all is_ascii_digit word) refl (starts_fraction behind) refl
  where
    before_letter : starts (λ c. is_ascii_alphabetic c || c == 95) behind ≡ true → Found (word ++ behind)
    before_letter l =
        bad (number_letter (length word) value (word_within word behind) (subst (λ x. IsNumber x value) (sym (take_word word behind)) n.number) (is_longest word behind n.longest) (ap (starts (λ c. is_ascii_alphabetic c || c == 95)) (drop_word word behind) ∙ l))

    stands_there : starts (λ c. is_ascii_alphabetic c || c == 95) behind ≡ false → (list_all is_ascii_digit word && starts_fraction behind) ≡ false → Found left
    stands_there l f = first_found _ left behind (token_first (number value) word behind left whole n.number n.longest (and_from _ _ (not_from_false _ l) (not_from_false _ f))) u

    by : (l : Bool) → starts (λ c. is_ascii_alphabetic c || c == 95) behind ≡ l → (d : Bool) → list_all is_ascii_digit word ≡ d → (f : Bool) → starts_fraction behind ≡ f → Found left
    by true l d g f h = subst Found (sym whole) (before_letter l)
    by false l true g true h = bad (fraction word behind g (some_bytes word value n.number) h whole)
    by false l true g false h = stands_there l (ap (λ x. x && starts_fraction behind) g ∙ h)
    by false l false g f h = stands_there l (ap (λ x. x && starts_fraction behind) g)

digit_ascii : (c : ℕ) → is_ascii_digit c ≡ true → is_ascii c ≡ true
digit_ascii c e = grind (arith, nat_tests)

hex_ascii : (c : ℕ) → is_ascii_hexdigit c ≡ true → is_ascii c ≡ true
hex_ascii c e = grind (arith, nat_tests)

decimal_found : (c : ℕ) (cs : List ℕ) → class_of c ≡ class.Digit → IsUtf8 (c ∷ cs) → OnlyDecimal (c ∷ cs) → Found (c ∷ cs)
decimal_found c cs b u only =
    number_found (c ∷ run is_ascii_digit cs) (behind_run is_ascii_digit (c ∷ cs)) (c ∷ cs) (value_of 10 (c ∷ run is_ascii_digit cs))
    (sym (run_behind is_ascii_digit (c ∷ cs)) ∙ ap (λ x. x ++ behind_run is_ascii_digit (c ∷ cs)) (run_one is_ascii_digit c cs (says c class.Digit b))) (decimal_number c cs b only) (run_utf8 is_ascii_digit (c ∷ cs) digit_ascii u)

two_heads : (a c d : ℕ) (xs ys : List ℕ) → ◌≡◌ {A = List ℕ} (a ∷ c ∷ xs) (48 ∷ d ∷ ys) → c ≡ d
two_heads a c d xs ys e = same_head c d xs ys (same_tail a 48 (c ∷ xs) (d ∷ ys) e)

two_tails : (c d : ℕ) (xs ys : List ℕ) → ◌≡◌ {A = List ℕ} (48 ∷ c ∷ xs) (48 ∷ d ∷ ys) → xs ≡ ys
two_tails c d xs ys e = same_tail c d xs ys (same_tail 48 48 (c ∷ xs) (d ∷ ys) e)

hex_found : (r : List ℕ) → IsUtf8 (48 ∷ 120 ∷ r) → (b : Bool) → (length (run is_ascii_hexdigit r) == 0) ≡ b → Found (48 ∷ 120 ∷ r)
hex_found r u true e = decimal_found 48 (120 ∷ r) refl u (record {
  no_hexadecimal = λ behind w ds later x. no_digits r (run is_ascii_hexdigit r) refl e ds later (two_tails 120 120 r behind w ∙ x);
  no_character = λ behind w part n later p x. absurd (omega (arith, two_heads 48 120 39 r behind w));
})
hex_found r u false e =
    number_found (48 ∷ 120 ∷ run is_ascii_hexdigit r) (behind_run is_ascii_hexdigit r) (48 ∷ 120 ∷ r) (value_of 16 (run is_ascii_hexdigit r)) (ap (λ x. 48 ∷ 120 ∷ x) (sym (run_behind is_ascii_hexdigit r)))
    (hexadecimal_number r (some (length (run is_ascii_hexdigit r)) refl)) (run_utf8 is_ascii_hexdigit r hex_ascii (utf8_tail 120 r (omega arith) (utf8_tail 48 (120 ∷ r) (omega arith) u)))
  where
    some : (n : ℕ) → length (run is_ascii_hexdigit r) ≡ n → 1 ≤ length (run is_ascii_hexdigit r)
    some zero g = absurd (eqb-false (length (run is_ascii_hexdigit r)) 0 e g)
    some (suc n) g = omega (arith, g)

-- no character form, so decimal digits
no_form : (r : List ℕ) → IsUtf8 (48 ∷ 39 ∷ r) → ((part : List ℕ) (n : ℕ) (later : List ℕ) → Part 39 part (n ∷ []) → r ≡ part ++ later → ⊥) → Found (48 ∷ 39 ∷ r)
no_form r u no_part = decimal_found 48 (39 ∷ r) refl u (record {
  no_hexadecimal = λ behind w ds later x h l. absurd (omega (arith, two_heads 48 39 120 r behind w));
  no_character = λ behind w part n later p x. no_part part n later p (two_tails 39 39 r behind w ∙ x);
})

-- a part means one character at most
one_meaning : (q : ℕ) {bytes meant : List ℕ} → Part q bytes meant → length meant ≤ 1
one_meaning q (itself c s nq nb e) = omega arith
one_meaning q (doubled e) = omega arith
one_meaning q (escape l c m e) = omega arith
one_meaning q (code ds c h lo hi v s e) = omega arith
one_meaning q (continued e) = omega arith

char_found : (r : List ℕ) → IsUtf8 (48 ∷ 39 ∷ r) → Next 39 single_low single_apart r → Found (48 ∷ 39 ∷ r)
char_found r u (one [] behind p v) = no_form r u (no_char r [] behind p refl)
char_found r u (one (c ∷ []) behind (part, p, e) v) = number_found (48 ∷ 39 ∷ part) behind (48 ∷ 39 ∷ r) c (ap (λ x. 48 ∷ 39 ∷ x) e) (character_number part behind c p) v
char_found r u (one (c ∷ d ∷ more) behind (part, p, e) v) = absurd (omega (arith, one_meaning 39 p))
char_found r u (none n) = no_form r u (λ part c later p e. n part (c ∷ []) later p e)

zero_found : (cs : List ℕ) → IsUtf8 (48 ∷ cs) → Found (48 ∷ cs)
zero_found [] u = decimal_found 48 [] refl u (record {
  no_hexadecimal = λ behind w ds later x h l. not_empty 120 behind (same_tail 48 48 [] (120 ∷ behind) w);
  no_character = λ behind w part n later p x. not_empty 39 behind (same_tail 48 48 [] (39 ∷ behind) w);
})
zero_found (d ∷ ds) u = by (d == 120) refl (d == 39) refl
  where
    char : IsUtf8 (48 ∷ 39 ∷ ds) → Found (48 ∷ 39 ∷ ds)
    char v = char_found ds v (next 39 single_low single_apart ds (utf8_tail 39 ds (omega arith) (utf8_tail 48 (39 ∷ ds) (omega arith) v)))

    by : (x : Bool) → (d == 120) ≡ x → (y : Bool) → (d == 39) ≡ y → Found (48 ∷ d ∷ ds)
    by true e y f = let is = eqb-true d 120 e in subst (λ z. Found (48 ∷ z ∷ ds)) (sym is) (hex_found ds (subst (λ z. IsUtf8 (48 ∷ z ∷ ds)) is u) (length (run is_ascii_hexdigit ds) == 0) refl)
    by false e true f = let is = eqb-true d 39 f in subst (λ z. Found (48 ∷ z ∷ ds)) (sym is) (char (subst (λ z. IsUtf8 (48 ∷ z ∷ ds)) is u))
    by false e false f = decimal_found 48 (d ∷ ds) refl u (record {
      no_hexadecimal = λ behind w ds later x h l. eqb-false d 120 e (two_heads 48 d 120 _ behind w);
      no_character = λ behind w part n later p x. eqb-false d 39 f (two_heads 48 d 39 _ behind w);
    })

-- what stands where a digit does
pub digit_found : (c : ℕ) (cs : List ℕ) → class_of c ≡ class.Digit → IsUtf8 (c ∷ cs) → Found (c ∷ cs)
digit_found c cs b u = by (c == 48) refl
  where
    by : (z : Bool) → (c == 48) ≡ z → Found (c ∷ cs)
    by true e = let is = eqb-true c 48 e in subst (λ x. Found (x ∷ cs)) (sym is) (zero_found cs (subst (λ x. IsUtf8 (x ∷ cs)) is u))
    by false e = decimal_found c cs b u (record {
      no_hexadecimal = λ behind w ds later x h l. eqb-false c 48 e (same_head c 48 cs (120 ∷ behind) w);
      no_character = λ behind w part n later p x. eqb-false c 48 e (same_head c 48 cs (39 ∷ behind) w);
    })
