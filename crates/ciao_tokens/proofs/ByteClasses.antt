-- When a byte has a class, and what its class says of it.
use Rattle.std.proofs.Common.{◌≡◌, ℕ, Bool, true, false, List, [], ◌∷◌, refl, ap, sym, subst, ◌∙◌, arith}
use Rattle.std.proofs.lemmas.Bool.Decides.{nat_tests}
use Rattle.std.specs.Prelude.{◌==◌, ◌||◌, if◌then◌else◌, codes}
use Rattle.std.specs.List.{list_any}
use Rattle.std.specs.Char.{is_ascii_lowercase, is_ascii_uppercase, is_ascii_digit}
use Rattle.term_core.specs.Characters.{is_symbol}
use Rattle.ciao_tokens.specs.Layout.{is_blank}
use Rattle.ciao_tokens.specs.declared.classes.Class.{Class}
use Rattle.ciao_tokens.specs.declared.classes.Class.TheVariants.{Lower, Upper, Digit, Symbol, Blank, Sign, Solo, Percent, Quote, DoubleQuote, Other}
use Rattle.ciao_tokens.specs.Classes.{class_of, sign_class, is_mark, is_solo_byte}

-- what a class says of the byte
abbrev pub Says : ℕ → Class → Type 0
Says c Lower = is_ascii_lowercase c ≡ true
Says c Upper = (is_ascii_uppercase c || c == 95) ≡ true
Says c Digit = is_ascii_digit c ≡ true
Says c Symbol = is_symbol c ≡ true
Says c Blank = is_blank c ≡ true
Says c Sign = is_mark c ≡ true
Says c Solo = is_solo_byte c ≡ true
Says c Percent = c ≡ 37
Says c Quote = c ≡ 39
Says c DoubleQuote = c ≡ 34
Says c Other = Unit {0}

-- what holds of both sides of a choice holds of the choice
chosen : (P : Class → Type 0) (b : Bool) (x y : Class) → (b ≡ true → P x) → P y → P (if b then x else y)
chosen P true x y when other = when refl
chosen P false x y when other = other

-- equal by the test is equal
pub is_eq : (c n : ℕ) → (c == n) ≡ true → c ≡ n
is_eq c n e = grind (arith, nat_tests)

-- the class of a sign is true of it
sign_says : (c : ℕ) → Says c (sign_class c)
sign_says c =
    chosen (Says c) (is_symbol c) Symbol _ (λ e. e)
    (chosen (Says c) (is_blank c) Blank _ (λ e. e)
    (chosen (Says c) (is_mark c) Sign _ (λ e. e)
    (chosen (Says c) (is_solo_byte c) Solo _ (λ e. e)
    (chosen (Says c) (c == 37) Percent _ (is_eq c 37)
    (chosen (Says c) (c == 39) Quote _ (is_eq c 39)
    (chosen (Says c) (c == 34) DoubleQuote Other (is_eq c 34) tt))))))

-- a byte's class is true of it
pub class_says : (c : ℕ) → Says c (class_of c)
class_says c =
    chosen (Says c) (is_ascii_lowercase c) Lower _ (λ e. e)
    (chosen (Says c) (is_ascii_uppercase c || c == 95) Upper _ (λ e. e)
    (chosen (Says c) (is_ascii_digit c) Digit _ (λ e. e) (sign_says c)))

-- the class by its first tests
abbrev by_tests : Bool → Bool → Bool → ℕ → Class
by_tests l u d c = if l then Lower else (if u then Upper else (if d then Digit else sign_class c))

-- a lower-case letter has its class
pub class_lower : (c : ℕ) → is_ascii_lowercase c ≡ true → class_of c ≡ Lower
class_lower c e = ap (λ l. by_tests l (is_ascii_uppercase c || c == 95) (is_ascii_digit c) c) e

-- an upper-case letter or `_` is no lower-case letter
upper_not_lower : (c : ℕ) → (is_ascii_uppercase c || c == 95) ≡ true → is_ascii_lowercase c ≡ false
upper_not_lower c e = grind (arith, nat_tests)

-- an upper-case letter or `_` has its class
pub class_upper : (c : ℕ) → (is_ascii_uppercase c || c == 95) ≡ true → class_of c ≡ Upper
class_upper c e =
    ap (λ l. by_tests l (is_ascii_uppercase c || c == 95) (is_ascii_digit c) c) (upper_not_lower c e)
    ∙ ap (λ u. by_tests false u (is_ascii_digit c) c) e

-- a digit is no lower-case letter
digit_not_lower : (c : ℕ) → is_ascii_digit c ≡ true → is_ascii_lowercase c ≡ false
digit_not_lower c e = grind (arith, nat_tests)

-- a digit is no upper-case letter and no `_`
digit_not_upper : (c : ℕ) → is_ascii_digit c ≡ true → (is_ascii_uppercase c || c == 95) ≡ false
digit_not_upper c e = grind (arith, nat_tests)

-- a digit has its class
pub class_digit : (c : ℕ) → is_ascii_digit c ≡ true → class_of c ≡ Digit
class_digit c e =
    ap (λ l. by_tests l (is_ascii_uppercase c || c == 95) (is_ascii_digit c) c) (digit_not_lower c e)
    ∙ ap (λ u. by_tests false u (is_ascii_digit c) c) (digit_not_upper c e)
    ∙ ap (λ d. by_tests false false d c) e

-- what holds of each of these
abbrev pub Each : (ℕ → Type 0) → List ℕ → Type 0
Each P [] = Unit {0}
Each P (d ∷ ds) = P d × Each P ds

-- what holds of each of these holds of one of them
pub any_is : (P : ℕ → Type 0) (c : ℕ) (ds : List ℕ) → Each P ds → list_any (λ d. c == d) ds ≡ true → P c
any_is P c [] each e = cc
any_is P c (d ∷ ds) each e = by (c == d) refl e (any_is P c ds each.1)
  where
    by : (b : Bool) → (c == d) ≡ b → (b || list_any (λ x. c == x) ds) ≡ true → (list_any (λ x. c == x) ds ≡ true → P c) → P c
    by true g f r = subst P (sym (is_eq c d g)) each.0
    by false g f r = r f

-- a symbol character has its class
pub class_symbol : (c : ℕ) → is_symbol c ≡ true → class_of c ≡ Symbol
class_symbol c e = any_is (λ x. class_of x ≡ Symbol) c (codes "+-*/\\^<>=~:.?@#&$") (refl, (refl, (refl, (refl, (refl, (refl, (refl, (refl, (refl, (refl, (refl, (refl, (refl, (refl, (refl, (refl, (refl, tt))))))))))))))))) e
