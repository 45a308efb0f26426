-- The value of an arithmetic term, or its first fault.
use Rattle.std.specs.Prelude.{◌≡◌, true, ℕ, ◌==◌, ◌^◌, ◌&&◌, ◌||◌, List, [], ◌∷◌, if◌then◌else◌, ℤ, pos, ◌+ℤ◌, ◌-ℤ◌, ◌*ℤ◌, neg_ℤ, int_lt, int_le, int_div, int_rem}
use Rattle.std.specs.Prelude.{Ok, Err}
use Rattle.std.specs.declared.result.Result.{Result}
use Rattle.std.specs.Ordering.{int_eq}
use Rattle.term_core.specs.declared.terms.Term.{Term}
use Rattle.term_core.specs.declared.terms.Term.TheOpen.{Term-F, Var, Int, Atom, Node}
use Rattle.term_core.specs.declared.terms.Term.TheFolds.{fold-Term}
use Rattle.prog_data.specs.declared.events.ArithKind.{ArithKind}
use Rattle.prog_data.specs.declared.events.ArithKind.TheVariants.{Overflow, ZeroDivisor, Unbound, NotNumber}
use Rattle.term_core.specs.Terms.{is_ground}
use Rattle.term_core.specs.declared.fixed.TheConstants.{PLUS, MINUS, TIMES, QUOTIENT, REMAINDER, MODULO}

-- a number, or a fault of arithmetic
abbrev pub Number : Type 0
Number = Result ℤ ArithKind

-- the number, if it has 64 bits, else an overflow
abbrev pub within : ℤ → Number
within n = if int_le (neg_ℤ (pos (2 ^ 63))) n && int_lt n (pos (2 ^ 63)) then Ok n else Err Overflow

-- the remainder with the divisor's sign
abbrev pub modulus : ℤ → ℤ → ℤ
modulus a b = let r = int_rem a b in if int_eq r (pos 0) || (int_lt r (pos 0) && int_lt b (pos 0)) || (int_lt (pos 0) r && int_lt (pos 0) b) then r else r +ℤ b

-- a quotient or a remainder, where the divisor is not 0 and the result has 64 bits
abbrev pub divided : (ℤ → ℤ → ℤ) → ℤ → ℤ → Number
divided by a b = if int_eq b (pos 0) then Err ZeroDivisor else within (by a b)

-- a number from two others; the left one's fault comes first
abbrev pub with_both : (ℤ → ℤ → Number) → Number → Number → Number
with_both by (Err e) other = Err e
with_both by (Ok a) (Err e) = Err e
with_both by (Ok a) (Ok b) = by a b

-- a number from another, or that one's fault
abbrev pub with_one : (ℤ → Number) → Number → Number
with_one by (Err e) = Err e
with_one by (Ok a) = by a

-- a compound's value from those of its parts, the left one's fault first
abbrev pub apply : ℕ → List Number → Number
apply f [] = Err NotNumber
apply f (a ∷ []) = if f == MINUS then with_one (λ x. within (neg_ℤ x)) a else Err NotNumber
apply f (a ∷ b ∷ []) =
    if f == PLUS then with_both (λ x y. within (x +ℤ y)) a b else
    if f == MINUS then with_both (λ x y. within (x -ℤ y)) a b else
    if f == TIMES then with_both (λ x y. within (x *ℤ y)) a b else
    if f == QUOTIENT then with_both (divided int_div) a b else
    if f == REMAINDER then with_both (divided int_rem) a b else
    if f == MODULO then with_both (divided modulus) a b else Err NotNumber
apply f (a ∷ b ∷ c ∷ rest) = Err NotNumber

-- the value of a term, from those of its parts
abbrev pub value_step : Term-F Number → Number
value_step (Var v) = Err Unbound
value_step (Int n) = Ok n
value_step (Atom a) = Err NotNumber
value_step (Node f vs) = apply f vs

-- the value of a term, or its first fault
abbrev pub value : Term → Number
value = fold-Term Number value_step

-- what has a value has no variables
abbrev pub ValuesAreGround : Type 0
ValuesAreGround = (t : Term) (n : ℤ) → value t ≡ Ok n → is_ground t ≡ true
