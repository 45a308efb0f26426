-- Numbers, as the code reads them.
use Rattle.std.proofs.Common.{◌≡◌, ◌<◌, ◌≤◌, ◌^◌, ℕ, zero, suc, Bool, true, false, List, [], ◌∷◌, ◌++◌, length, drop, refl, sym, ap, subst, ◌∙◌, arith, append_assoc}
use Rattle.std.proofs.lemmas.List.{append-nil}
use Rattle.ciao_tokens.specs.Classes.{class_of}
use Rattle.std.proofs.lemmas.Bool.{and_parts, and_from}
use Rattle.std.proofs.lemmas.Bool.Decides.{nat_tests}
use Rattle.std.specs.Prelude.{if◌then◌else◌, MatchOption, Option, Some, None, IsUtf8, ◌&&◌, ◌||◌, ◌==◌, not}
use Rattle.std.specs.List.{list_all}
use Rattle.std.specs.Char.{is_ascii_digit, is_ascii_hexdigit, is_ascii_alphabetic}
use Rattle.ciao_tokens.specs.Quotes.{Part, itself, doubled, escape, code, continued, meant_by, value_of}
use lib.Utf8.{scalar_fits}
use Rattle.ciao_tokens.specs.Forms.{starts, starts_fraction, IsNumber, decimal, hexadecimal, character}
use Rattle.ciao_tokens.specs.Pieces.{IsStuck}
use Rattle.ciao_tokens.specs.declared.classes.Class.TheVariants as class
use Rattle.ciao_tokens.specs.declared.numbers.Written.{Written}
use Rattle.ciao_tokens.specs.Scanning.{Begins, run, behind_run}
use Rattle.ciao_tokens.specs.NumbersRead.{IsWritten, NoDigits, NoChar, OnlyDecimal}
use Rattle.ciao_tokens.proofs.Bytes.{same_head, same_tail}
use Rattle.ciao_tokens.proofs.ByteClasses.{is_eq}
use Rattle.ciao_tokens.proofs.Longest.{NoLonger, is_longest, take_word, drop_word, word_within}
use Rattle.ciao_tokens.proofs.OneMeaning.{one_part}
use Rattle.ciao_tokens.proofs.BadIsStuck.{number_stuck}
use Rattle.ciao_tokens.proofs.PartLaws.{OnePart}
use Rattle.ciao_tokens.proofs.Runs.{run_one, run_passes, run_behind, no_further}
use Rattle.ciao_tokens.proofs.WordLaws.{says, none_longer}

-- a number of these bytes that does not go on
pub record Number (word behind : List ℕ) (value : ℕ) : Type 0 where
  pub number : IsNumber word value
  pub longest : NoLonger word behind

-- the value within the limit, if it is
abbrev pub Valued : Option ℕ → ℕ → Type 0
Valued o value = MatchOption o (2 ^ 63 < value) (λ v. (v ≡ value) × (v ≤ 2 ^ 63))

-- what the code has of it
pub written : (word behind left : List ℕ) (value : ℕ) (w : Written) → left ≡ word ++ behind → Number word behind value → w.behind.now ≡ behind → w.is_decimal ≡ list_all is_ascii_digit word → Valued w.value value → IsUtf8 w.behind.now → IsWritten left w
written word behind left value w whole n e d v u = subst (λ l. IsWritten l w) (sym whole) (record {
  size = length word;
  value = value;
  within = word_within word behind;
  number = subst (λ x. IsNumber x value) (sym (take_word word behind)) n.number;
  longest = is_longest word behind n.longest;
  rest = e ∙ sym (drop_word word behind);
  decimal = d ∙ ap (list_all is_ascii_digit) (sym (take_word word behind));
  values = v;
  utf8 = u;
})

two_heads : (a b c d : ℕ) (xs ys : List ℕ) → ◌≡◌ {A = List ℕ} (a ∷ b ∷ xs) (c ∷ d ∷ ys) → b ≡ d
two_heads a b c d xs ys e = same_head b d xs ys (same_tail a c (b ∷ xs) (d ∷ ys) e)

two_tails : (a b c d : ℕ) (xs ys : List ℕ) → ◌≡◌ {A = List ℕ} (a ∷ b ∷ xs) (c ∷ d ∷ ys) → xs ≡ ys
two_tails a b c d xs ys e = same_tail b d xs ys (same_tail a c (b ∷ xs) (d ∷ ys) e)

-- hexadecimal

no_hexadecimal : (cs : List ℕ) (n b : ℕ) (more later : List ℕ) → behind_run is_ascii_hexdigit cs ≡ b ∷ (more ++ later) → IsNumber (48 ∷ 120 ∷ (run is_ascii_hexdigit cs ++ b ∷ more)) n → ⊥
no_hexadecimal cs n b more later e (decimal d l f) = let g : false ≡ true = d in cc
no_hexadecimal cs n b more later e (hexadecimal ds h l f g) =
    no_further is_ascii_hexdigit cs (run is_ascii_hexdigit cs) more later b e (ap (list_all is_ascii_hexdigit) (two_tails 48 120 48 120 (run is_ascii_hexdigit cs ++ b ∷ more) ds f) ∙ h)
no_hexadecimal cs n b more later e (character part p f) = absurd (omega (arith, two_heads 48 120 48 39 (run is_ascii_hexdigit cs ++ b ∷ more) part f))

pub hexadecimal_number : (cs : List ℕ) → 1 ≤ length (run is_ascii_hexdigit cs) → Number (48 ∷ 120 ∷ run is_ascii_hexdigit cs) (behind_run is_ascii_hexdigit cs) (value_of 16 (run is_ascii_hexdigit cs))
hexadecimal_number cs some = record {
  number = hexadecimal (run is_ascii_hexdigit cs) (run_passes is_ascii_hexdigit cs) some refl refl;
  longest = none_longer class.Digit 48 (120 ∷ run is_ascii_hexdigit cs) (behind_run is_ascii_hexdigit cs) refl (λ s b more later e t. no_hexadecimal cs t.0 b more later e t.2) (λ b more later e t. t);
}

pub no_digits : (left digits : List ℕ) → digits ≡ run is_ascii_hexdigit left → (length digits == 0) ≡ true → NoDigits left
no_digits left digits e none [] later whole all some = absurd (omega (arith, some))
no_digits left digits e none (d ∷ ds) later whole all some =
    absurd (omega (arith, is_eq (length digits) 0 none, ap length (e ∙ ap (run is_ascii_hexdigit) whole ∙ run_one is_ascii_hexdigit d (ds ++ later) (and_parts (is_ascii_hexdigit d) _ all).0)))

-- one character

no_character : (part behind : List ℕ) (c n b : ℕ) (more : List ℕ) → Part 39 part (c ∷ []) → IsNumber (48 ∷ 39 ∷ (part ++ b ∷ more)) n → ⊥
no_character part behind c n b more p (decimal d l f) = let g : false ≡ true = d in cc
no_character part behind c n b more p (hexadecimal ds h l f g) = absurd (omega (arith, two_heads 48 39 48 120 (part ++ b ∷ more) ds f))
no_character part behind c n b more p (character part' p' f) =
    absurd (omega (arith, ap length (one_part 39 (omega arith) (λ e. omega (arith, e)) p p' (b ∷ more) [] (two_tails 48 39 48 39 (part ++ b ∷ more) part' f ∙ sym (append-nil part'))).0))

pub character_number : (part behind : List ℕ) (c : ℕ) → Part 39 part (c ∷ []) → Number (48 ∷ 39 ∷ part) behind c
character_number part behind c p = record {
  number = character part p refl;
  longest = none_longer class.Digit 48 (39 ∷ part) behind refl (λ s b more later e t. no_character part behind c t.0 b more p t.2) (λ b more later e t. t);
}

pub no_char : (left meant behind : List ℕ) → OnePart 39 left meant behind → meant ≡ [] → NoChar left
no_char left meant behind (part, p, e) none part' n later p' f =
    absurd (omega (arith, ap length (sym none ∙ (one_part 39 (omega arith) (λ e. omega (arith, e)) p p' behind later (sym e ∙ f)).1)))

-- decimal

module _ (c : ℕ) (cs : List ℕ) (begins : class_of c ≡ class.Digit) (only : OnlyDecimal (c ∷ cs)) where
  abbrev front : List ℕ
  front = run is_ascii_digit cs

  abbrev after : List ℕ
  after = behind_run is_ascii_digit (c ∷ cs)

  passes : is_ascii_digit c ≡ true
  passes = says c class.Digit begins

  whole : c ∷ cs ≡ (c ∷ front) ++ after
  whole = sym (run_behind is_ascii_digit (c ∷ cs)) ∙ ap (λ w. w ++ after) (run_one is_ascii_digit c cs passes)

  -- with what stands behind, as another number that begins so
  longer : (b : ℕ) (more later : List ℕ) → after ≡ b ∷ (more ++ later) → c ∷ cs ≡ (c ∷ (front ++ b ∷ more)) ++ later
  longer b more later e = whole ∙ ap (λ r. (c ∷ front) ++ r) e ∙ ap (λ r. c ∷ r) (sym (append_assoc front (b ∷ more) later))

  no_decimal : (n b : ℕ) (more later : List ℕ) → after ≡ b ∷ (more ++ later) → IsNumber (c ∷ (front ++ b ∷ more)) n → ⊥
  no_decimal n b more later e (decimal d l f) = no_further is_ascii_digit (c ∷ cs) (c ∷ front) more later b e d
  no_decimal n b more later e (hexadecimal ds h l f g) =
      only.no_hexadecimal (ds ++ later) (longer b more later e ∙ ap (λ w. w ++ later) f) ds later refl h l
  no_decimal n b more later e (character part p f) =
      only.no_character (part ++ later) (longer b more later e ∙ ap (λ w. w ++ later) f) part n later p refl

  pub decimal_number : Number (c ∷ front) after (value_of 10 (c ∷ front))
  decimal_number = record {
    number = decimal (and_from (is_ascii_digit c) _ passes (run_passes is_ascii_digit cs)) (omega arith) refl;
    longest = none_longer class.Digit c front after begins (λ s b more later e t. no_decimal t.0 b more later e t.2) (λ b more later e t. t);
  }

-- a character is within the limit

escaped : (letter c : ℕ) → meant_by letter ≡ Some c → c < 2 ^ 32
escaped letter c = by (letter == 110) (letter == 116) (letter == 114) ((letter == 92 || letter == 39) || letter == 34) refl
  where
    same : (a b : ℕ) → Some a ≡ Some b → a ≡ b
    same a b e = cc

    by : (n t r k : Bool) → k ≡ ((letter == 92 || letter == 39) || letter == 34) → (if n then Some 10 else if t then Some 9 else if r then Some 13 else if k then Some letter else None) ≡ Some c → c < 2 ^ 32
    by true t r k g e = omega (arith, same 10 c e)
    by false true r k g e = omega (arith, same 9 c e)
    by false false true k g e = omega (arith, same 13 c e)
    by false false false true g e = omega (arith, same letter c e, low g)
      where
        low : true ≡ ((letter == 92 || letter == 39) || letter == 34) → letter < 128
        low g = grind (arith, nat_tests)
    by false false false false g e = cc

pub small : (q : ℕ) {bytes meant : List ℕ} → q < 128 → Part q bytes meant → (c : ℕ) → meant ≡ c ∷ [] → c < 2 ^ 32
small q l (itself d s nq nb e) c f = omega (arith, scalar_fits d s, same_head d c [] [] f)
small q l (doubled e) c f = omega (arith, l, same_head q c [] [] f)
small q l (escape letter d m e) c f = omega (arith, escaped letter d m, same_head d c [] [] f)
small q l (code ds d h g k v s e) c f = omega (arith, scalar_fits d s, same_head d c [] [] f)
small q l (continued e) c f = cc

-- for the code

pub hexadecimal_written : (left digits : List ℕ) (w : Written) → digits ≡ run is_ascii_hexdigit left → w.behind.now ≡ behind_run is_ascii_hexdigit left → (length digits == 0) ≡ false → w.is_decimal ≡ false → Valued w.value (value_of 16 digits) → IsUtf8 w.behind.now → IsWritten (48 ∷ 120 ∷ left) w
hexadecimal_written left digits w e f some d v u =
    written (48 ∷ 120 ∷ run is_ascii_hexdigit left) (behind_run is_ascii_hexdigit left) (48 ∷ 120 ∷ left) (value_of 16 (run is_ascii_hexdigit left)) w
    (ap (λ x. 48 ∷ 120 ∷ x) (sym (run_behind is_ascii_hexdigit left))) (hexadecimal_number left (some_digits (length (run is_ascii_hexdigit left)) refl)) f d (subst (λ x. Valued w.value (value_of 16 x)) e v) u
  where
    some_digits : (n : ℕ) → length (run is_ascii_hexdigit left) ≡ n → 1 ≤ length (run is_ascii_hexdigit left)
    some_digits zero g = let h : false ≡ true = sym some ∙ ap (λ n. n == 0) (ap length e ∙ g) in cc
    some_digits (suc n) g = omega (arith, g)

pub character_written : (left : List ℕ) (c : ℕ) (w : Written) → OnePart 39 left (c ∷ []) w.behind.now → w.is_decimal ≡ false → w.value ≡ Some c → IsUtf8 w.behind.now → IsWritten (48 ∷ 39 ∷ left) w
character_written left c w (part, p, e) d v u =
    written (48 ∷ 39 ∷ part) w.behind.now (48 ∷ 39 ∷ left) c w (ap (λ x. 48 ∷ 39 ∷ x) e) (character_number part w.behind.now c p) refl d (subst (λ o. Valued o c) (sym v) (refl, omega (arith, small 39 (omega arith) p c refl))) u

pub decimal_written : (left word : List ℕ) (w : Written) → Begins class.Digit left → OnlyDecimal left → word ≡ run is_ascii_digit left → w.behind.now ≡ behind_run is_ascii_digit left → w.is_decimal ≡ true → Valued w.value (value_of 10 word) → IsUtf8 w.behind.now → IsWritten left w
decimal_written [] word w b only e f d v u = absurd b
decimal_written (c ∷ cs) word w b only e f d v u =
    let passes = says c class.Digit b in
    written (c ∷ run is_ascii_digit cs) (behind_run is_ascii_digit (c ∷ cs)) (c ∷ cs) (value_of 10 (c ∷ run is_ascii_digit cs)) w
    (sym (run_behind is_ascii_digit (c ∷ cs)) ∙ ap (λ x. x ++ behind_run is_ascii_digit (c ∷ cs)) (run_one is_ascii_digit c cs passes)) (decimal_number c cs b only) f
    (d ∙ sym (and_from (is_ascii_digit c) _ passes (run_passes is_ascii_digit cs))) (subst (λ x. Valued w.value (value_of 10 x)) (e ∙ run_one is_ascii_digit c cs passes) v) u

-- a number that may not stand there
pub number_open : (left : List ℕ) (w : Written) → IsWritten left w → (not (starts (λ c. is_ascii_alphabetic c || c == 95) w.behind.now) && not (w.is_decimal && starts_fraction w.behind.now)) ≡ false → IsStuck left
number_open left w r e = number_stuck left r.size r.value r.within r.number r.longest (ap (λ d. not (starts (λ c. is_ascii_alphabetic c || c == 95) (drop r.size left)) && not (d && starts_fraction (drop r.size left))) (sym r.decimal)
    ∙ ap (λ b. not (starts (λ c. is_ascii_alphabetic c || c == 95) b) && not (w.is_decimal && starts_fraction b)) (sym r.rest) ∙ e)
