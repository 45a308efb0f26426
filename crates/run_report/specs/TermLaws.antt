-- The names of built-ins in clauses as terms.
-- The headline does not rest on this file.
use Rattle.std.specs.Prelude.{◌≡◌, ◌≤◌, ℕ, nat_lt, Bool, true, Some}
use Rattle.prog_data.specs.declared.goals.Builtin.{Builtin}
use Rattle.prog_data.specs.declared.goals.Builtin.TheVariants.{Belongs}
use Rattle.prog_data.specs.declared.basic_names.TheConstants.{LIST_TYPE}
use Rattle.prog_data.specs.declared.control.Meaning.TheVariants as meaning
use Rattle.prog_data.specs.Control.{meaning_of}
use Rattle.prog_data.specs.Ranges.{arity_of}
use Rattle.run_report.specs.ClauseTerms.{builtin_name}

-- whether a built-in has a name of its own: each has but the tests of types that are not basic
abbrev pub has_own_name : Builtin → Bool
has_own_name (Belongs type) = nat_lt type 10
has_own_name other = true

-- the name that is written for a built-in means that built-in when it is read; lists of an element are tested by `list` with two arguments
pub record BuiltinNamesMean : Type 0 where
  pub own : (b : Builtin) → has_own_name b ≡ true → meaning_of (builtin_name b) (arity_of b) ≡ Some (meaning.Builtin b)
  pub lists : (type : ℕ) → LIST_TYPE ≤ type → meaning_of (builtin_name (Belongs type)) 2 ≡ Some meaning.ListTest
