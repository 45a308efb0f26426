-- The table of control and built-ins has each name with its number of arguments once.
use Rattle.std.proofs.Common.{◌≡◌, ◌<◌, ◌+◌, ℕ, zero, suc, refl, arith}
use Rattle.std.specs.Prelude.{Some}
use Rattle.term_core.specs.declared.fixed.TheConstants.{TERM}
use Rattle.prog_data.specs.declared.control.Meaning.TheVariants as meaning
use Rattle.prog_data.specs.declared.goals.Builtin.TheVariants as builtin
use Rattle.prog_data.specs.Control.{meaning_of}
use Rattle.prog_data.specs.ControlLaws.{IsOneTable}

types : (n : ℕ) → n < 10 → meaning_of (TERM + n) 1 ≡ Some (meaning.Builtin (builtin.Belongs n))
types zero lt = refl
types (suc zero) lt = refl
types (suc (suc zero)) lt = refl
types (suc (suc (suc zero))) lt = refl
types (suc (suc (suc (suc zero)))) lt = refl
types (suc (suc (suc (suc (suc zero))))) lt = refl
types (suc (suc (suc (suc (suc (suc zero)))))) lt = refl
types (suc (suc (suc (suc (suc (suc (suc zero))))))) lt = refl
types (suc (suc (suc (suc (suc (suc (suc (suc zero)))))))) lt = refl
types (suc (suc (suc (suc (suc (suc (suc (suc (suc zero))))))))) lt = refl
types (suc (suc (suc (suc (suc (suc (suc (suc (suc (suc n)))))))))) lt = absurd (omega (arith, lt))

pub is_one_table : IsOneTable
is_one_table = record { arities = refl; apart = refl; types = types }
