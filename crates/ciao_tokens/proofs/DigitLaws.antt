-- Digits and their numbers.
use Rattle.std.proofs.Common.{◌≡◌, ◌<◌, ◌≤◌, ℕ, ◌+◌, ◌*◌, ◌^◌, true, List, [], ◌∷◌, take, drop, length, get_or, sym, ap, ◌∙◌, subst, arith}
use Rattle.std.proofs.lemmas.List.{at_drop_more}
use Rattle.std.proofs.lemmas.Bool.Decides.{nat_tests}
use Rattle.std.specs.Prelude.{fold}
use Rattle.std.specs.List.{list_all, prefix_len}
use Rattle.std.specs.Char.{digit_value, is_ascii, is_ascii_digit, is_ascii_hexdigit}
use Rattle.ciao_tokens.specs.Quotes.{value_of}
use Rattle.ciao_tokens.specs.Scanning.{run}
use Rattle.ciao_tokens.proofs.Ascii.{passes_ascii}
use Rattle.ciao_tokens.proofs.Runs.{run_passes}

-- the number with the digits behind it
abbrev pub with_digits : ℕ → ℕ → List ℕ → ℕ
with_digits base n ds = fold (λ m d. m * base + digit_value d) n ds

times_one : (n base : ℕ) → 1 ≤ base → n ≤ n * base
times_one n base l = grind (arith)

-- more digits make no smaller number
pub grows : (base n : ℕ) (ds : List ℕ) → 1 ≤ base → n ≤ with_digits base n ds
grows base n [] l = omega arith
grows base n (d ∷ ds) l = omega (arith, times_one n base l, grows base (n * base + digit_value d) ds l)

digit_ascii : (c : ℕ) → is_ascii_digit c ≡ true → is_ascii c ≡ true
digit_ascii c e = grind (arith, nat_tests)

hexdigit_ascii : (c : ℕ) → is_ascii_hexdigit c ≡ true → is_ascii c ≡ true
hexdigit_ascii c e = grind (arith, nat_tests)

pub decimal_ascii : (left : List ℕ) (n : ℕ) → n ≡ prefix_len is_ascii_digit left → list_all is_ascii (take n left) ≡ true
decimal_ascii left n e = subst (λ m. list_all is_ascii (take m left) ≡ true) (sym e) (passes_ascii is_ascii_digit (run is_ascii_digit left) digit_ascii (run_passes is_ascii_digit left))

pub hexadecimal_ascii : (left : List ℕ) (n : ℕ) → n ≡ prefix_len is_ascii_hexdigit left → list_all is_ascii (take n left) ≡ true
hexadecimal_ascii left n e = subst (λ m. list_all is_ascii (take m left) ≡ true) (sym e) (passes_ascii is_ascii_hexdigit (run is_ascii_hexdigit left) hexdigit_ascii (run_passes is_ascii_hexdigit left))

-- a number that is too large with one digit more is so with all
pub too_large : (base n i : ℕ) (ds word : List ℕ) → 1 ≤ base → i < length ds → with_digits base n (drop i ds) ≡ value_of base ds → ds ≡ word → 2 ^ 63 < n * base + digit_value (get_or ds i 0) → 2 ^ 63 < value_of base word
too_large base n i ds word some within done same large =
    subst (λ v. 2 ^ 63 < v) (sym (at_drop_more (with_digits base n) ds i 0 within) ∙ done ∙ ap (value_of base) same)
    (omega (arith, large, grows base (n * base + digit_value (get_or ds i 0)) (drop (i + 1) ds) some))
