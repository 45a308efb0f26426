-- The names of built-ins mean them.
use Rattle.std.proofs.Common.{◌≡◌, ◌≤◌, ◌<◌, ℕ, true, refl, ap, ◌∙◌, arith}
use Rattle.std.proofs.lemmas.Bool.Decides.{nat_tests}
use Rattle.std.specs.Prelude.{◌+◌, nat_lt, min, Some}
use Rattle.term_core.specs.declared.fixed.TheConstants.{TERM}
use Rattle.prog_data.specs.declared.goals.Builtin.{Builtin}
use Rattle.prog_data.specs.declared.goals.Builtin.TheVariants as builtin
use Rattle.prog_data.specs.declared.control.Meaning.TheVariants as meaning
use Rattle.prog_data.specs.Control.{meaning_of}
use Rattle.prog_data.specs.ControlLaws.{IsOneTable}
use Rattle.prog_data.specs.Ranges.{arity_of}
use Rattle.run_report.specs.ClauseTerms.{builtin_name}
use Rattle.run_report.specs.TermLaws.{has_own_name, BuiltinNamesMean}

is_below : (type : ℕ) → nat_lt type 10 ≡ true → type < 10
is_below type e = grind (arith, nat_tests)

of_basic : (type : ℕ) → type < 10 → min type 9 ≡ type
of_basic type lt = omega (arith, lt)

of_lists : (type : ℕ) → 9 ≤ type → min type 9 ≡ 9
of_lists type le = omega (arith, le)

module _ (table : IsOneTable) where
  own : (b : Builtin) → has_own_name b ≡ true → meaning_of (builtin_name b) (arity_of b) ≡ Some (meaning.Builtin b)
  own builtin.Unify e = refl
  own builtin.NotUnify e = refl
  own builtin.Same e = refl
  own builtin.NotSame e = refl
  own builtin.Is e = refl
  own builtin.Less e = refl
  own builtin.Greater e = refl
  own builtin.LessEq e = refl
  own builtin.GreaterEq e = refl
  own builtin.NumEq e = refl
  own builtin.NumNotEq e = refl
  own builtin.Integer e = refl
  own builtin.Atom e = refl
  own builtin.Write e = refl
  own builtin.Writeq e = refl
  own builtin.Nl e = refl
  own (builtin.Belongs type) e = let lt = is_below type e in ap (λ t. meaning_of (TERM + t) 1) (of_basic type lt) ∙ table.types type lt
  own builtin.IsVar e = refl
  own builtin.IsNonvar e = refl
  own builtin.IsGround e = refl

  pub names_mean : BuiltinNamesMean
  names_mean = record { own = own; lists = λ type le. ap (λ t. meaning_of (TERM + t) 2) (of_lists type le) }
