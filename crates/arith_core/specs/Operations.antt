-- Operations on two integers, and the names that stand for them.
-- The headline does not rest on this file.
use Rattle.std.specs.Prelude.{ℕ, ◌==◌, Bool, ◌&&◌, ◌||◌, ℤ, pos, int_lt, ◌+ℤ◌, ◌-ℤ◌, ◌*ℤ◌, int_div, int_rem, if◌then◌else◌, Ok, Err, Option, Some, None}
use Rattle.std.specs.declared.result.Result.{Result}
use Rattle.std.specs.Ordering.{int_eq}
use Rattle.term_core.specs.declared.fixed.TheConstants.{PLUS, MINUS, TIMES, QUOTIENT, REMAINDER, MODULO}
use Rattle.prog_data.specs.declared.events.ArithKind.{ArithKind}
use Rattle.prog_data.specs.declared.events.ArithKind.TheVariants as kinds
use Rattle.prog_data.specs.Arithmetic.{Number, within, divided, modulus}
use Rattle.arith_core.specs.declared.operations.ArithOp.{ArithOp}
use Rattle.arith_core.specs.declared.operations.ArithOp.TheVariants.{Add, Sub, Mul, Quot, Rem, Mod}
use Rattle.arith_core.specs.declared.operations.ArithFault.{ArithFault}
use Rattle.arith_core.specs.declared.operations.ArithFault.TheVariants.{Overflow, ZeroDivisor}

-- the result of an operation on two integers, or its fault
abbrev pub combined : ArithOp → ℤ → ℤ → Number
combined Add x y = within (x +ℤ y)
combined Sub x y = within (x -ℤ y)
combined Mul x y = within (x *ℤ y)
combined Quot x y = divided int_div x y
combined Rem x y = divided int_rem x y
combined Mod x y = divided modulus x y

-- whether what is left of a division is 0 or has the divisor's sign
abbrev pub has_sign_of : ℤ → ℤ → Bool
has_sign_of r b = int_eq r (pos 0) || (int_lt r (pos 0) && int_lt b (pos 0)) || (int_lt (pos 0) r && int_lt (pos 0) b)

-- a fault of an operation as one of a term
abbrev pub kind_of : ArithFault → ArithKind
kind_of Overflow = kinds.Overflow
kind_of ZeroDivisor = kinds.ZeroDivisor

-- a result as the value of a term
abbrev pub number_of : Result ℤ ArithFault → Number
number_of (Ok n) = Ok n
number_of (Err fault) = Err (kind_of fault)

-- the operation that a name of two operands stands for
abbrev pub operation : ℕ → Option ArithOp
operation f =
    if f == PLUS then Some Add else
    if f == MINUS then Some Sub else
    if f == TIMES then Some Mul else
    if f == QUOTIENT then Some Quot else
    if f == REMAINDER then Some Rem else
    if f == MODULO then Some Mod else None
