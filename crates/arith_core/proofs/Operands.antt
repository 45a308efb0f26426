-- The value of a compound of two operands.
use Rattle.std.proofs.Common.{◌≡◌, ℕ, List, [], ◌∷◌, length, map, get_or, Bool, true, false, ap, sym, ◌∙◌, arith, ℤ}
use Rattle.std.specs.Prelude.{◌==◌, ◌+ℤ◌, ◌-ℤ◌, ◌*ℤ◌, int_div, int_rem, Ok, Err, Some, None, if◌then◌else◌}
use Rattle.std.proofs.lemmas.Option.{same_Some, none-some}
use Rattle.term_core.specs.declared.fixed.TheConstants.{PLUS, MINUS, TIMES, QUOTIENT, REMAINDER, MODULO}
use Rattle.term_core.specs.declared.terms.Term.{Term}
use Rattle.prog_data.specs.declared.events.ArithKind.TheVariants.{NotNumber}
use Rattle.prog_data.specs.Arithmetic.{Number, value, apply, within, divided, modulus}
use Rattle.arith_core.specs.declared.operations.ArithOp.{ArithOp}
use Rattle.arith_core.specs.declared.operations.ArithOp.TheVariants.{Add, Sub, Mul, Quot, Rem, Mod}
use Rattle.arith_core.specs.Operations.{combined, operation}

module _ (op : ArithOp) (x y : ℤ) where
  -- the tests of a name, one after the other
  chosen : (p m t q r d : Bool) → (if p then Some Add else if m then Some Sub else if t then Some Mul else if q then Some Quot else if r then Some Rem else if d then Some Mod else None) ≡ Some op →
      ◌≡◌ {A = Number} (if p then within (x +ℤ y) else if m then within (x -ℤ y) else if t then within (x *ℤ y) else if q then divided int_div x y else if r then divided int_rem x y else if d then divided modulus x y else Err NotNumber) (combined op x y)
  chosen true m t q r d e = ap (λ o. combined o x y) (same_Some _ _ e)
  chosen false true t q r d e = ap (λ o. combined o x y) (same_Some _ _ e)
  chosen false false true q r d e = ap (λ o. combined o x y) (same_Some _ _ e)
  chosen false false false true r d e = ap (λ o. combined o x y) (same_Some _ _ e)
  chosen false false false false true d e = ap (λ o. combined o x y) (same_Some _ _ e)
  chosen false false false false false true e = ap (λ o. combined o x y) (same_Some _ _ e)
  chosen false false false false false false e = absurd (none-some _ e)

  -- the value of an operation whose operands have these values
  pub operated_value : (f : ℕ) (parts : List Term) (left right : Term) → length parts ≡ 2 → left ≡ get_or parts 0 left → right ≡ get_or parts 1 right → operation f ≡ Some op → value left ≡ Ok x → value right ≡ Ok y → apply f (map value parts) ≡ combined op x y
  operated_value f [] left right e l r o h k = absurd (omega (arith, e))
  operated_value f (a ∷ []) left right e l r o h k = absurd (omega (arith, e))
  operated_value f (a ∷ b ∷ []) left right e l r o h k =
      ap (λ n. apply f (n ∷ value b ∷ [])) (ap value (sym l) ∙ h)
      ∙ ap (λ n. apply f (Ok x ∷ n ∷ [])) (ap value (sym r) ∙ k)
      ∙ chosen (f == PLUS) (f == MINUS) (f == TIMES) (f == QUOTIENT) (f == REMAINDER) (f == MODULO) o
  operated_value f (a ∷ b ∷ c ∷ rest) left right e l r o h k = absurd (omega (arith, e))
