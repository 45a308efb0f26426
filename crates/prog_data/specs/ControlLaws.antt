-- What is true of the table of control and built-ins.
-- The headline does not rest on this file.
use Rattle.std.specs.Prelude.{◌≡◌, ◌<◌, ℕ, ◌==◌, ◌+◌, Bool, true, ◌&&◌, not, List, [], ◌∷◌, Some}
use Rattle.std.specs.List.{list_any, list_all}
use Rattle.term_core.specs.declared.fixed.TheConstants.{TERM}
use Rattle.prog_data.specs.declared.control.Control.{Control}
use Rattle.prog_data.specs.declared.control.Control.TheVariants.{Negation, Cut, True, Fail}
use Rattle.prog_data.specs.declared.control.Meaning.{Meaning}
use Rattle.prog_data.specs.declared.control.Meaning.TheVariants as meaning
use Rattle.prog_data.specs.declared.goals.Builtin.TheVariants as builtin
use Rattle.prog_data.specs.Control.{Predefined, predefined, meaning_of}
use Rattle.prog_data.specs.Ranges.{arity_of}

-- how many arguments a construct of control has
abbrev pub control_arity : Control → ℕ
control_arity Cut = 0
control_arity True = 0
control_arity Fail = 0
control_arity Negation = 1
control_arity other = 2

-- how many arguments a goal of this meaning has
abbrev pub meaning_arity : Meaning → ℕ
meaning_arity (meaning.Control c) = control_arity c
meaning_arity (meaning.Builtin b) = arity_of b
meaning_arity meaning.ListTest = 2

-- whether two rows are of one name with as many arguments
abbrev pub same_row : Predefined → Predefined → Bool
same_row a b = (a.0 == b.0) && (a.1 == b.1)

-- whether no two rows are
abbrev pub are_apart : List Predefined → Bool
are_apart [] = true
are_apart (row ∷ rows) = not (list_any (same_row row) rows) && are_apart rows

-- each row has as many arguments as its meaning takes, none comes twice, and the basic types are tested by their names, in order
pub record IsOneTable : Type 0 where
  pub arities : list_all (λ row. row.1 == meaning_arity row.2) predefined ≡ true
  pub apart : are_apart predefined ≡ true
  pub types : (n : ℕ) → n < 10 → meaning_of (TERM + n) 1 ≡ Some (meaning.Builtin (builtin.Belongs n))
