-- The conditions that a call looks at by a reading, and the notes that it takes of those whose Pre holds.
-- The headline does not rest on this file.
use Rattle.std.specs.Prelude.{◌≡◌, ◌-◌, ◌^◌, ◌++◌, ℕ, min, Bool, List, length, Option}
use Rattle.term_core.specs.declared.terms.Term.{Term}
use Rattle.prog_data.specs.declared.conditions.CondKind.{CondKind}
use Rattle.prog_data.specs.declared.programs.Check.{Check}
use Rattle.prog_data.specs.declared.programs.Program.{Program}
use Rattle.prog_data.specs.Conditions.{is_success, is_comp}
use Rattle.prog_data.specs.Goals.{pred_of, checked_by_note}
use Rattle.machine_model.specs.Tests.{Looks, checked_by_mark}
use Rattle.engine_state.specs.StepsMade.{whose_pre_holds}
use Rattle.engine_moves.specs.declared.looking.Kind.{Kind}
use Rattle.engine_moves.specs.declared.looking.Kind.TheVariants.{Success, Comp}
use Rattle.engine_moves.specs.declared.readings.Reading.{Reading}
use Rattle.engine_moves.specs.Readings.{tests_by}

-- the conditions that a call of the predicate with a number looks at
abbrev pub looks_by : Program → Reading → ℕ → Looks
looks_by program reading p = (tests_by program reading).looks (pred_of program p)

-- those of a kind
abbrev pub looked_by : Kind → Looks → List ℕ
looked_by Success looks = looks.notes
looked_by Comp looks = looks.marks

-- whether a condition is of a kind
abbrev pub is_of : Kind → Option CondKind → Bool
is_of Success condition = is_success condition
is_of Comp condition = is_comp condition

-- the conditions of a kind in a call check
abbrev pub checked_by : Kind → Check → List ℕ
checked_by Success check = checked_by_note check
checked_by Comp check = checked_by_mark check

-- of these conditions those whose Pre holds at a call with these arguments were added to notes, with a test of each; the number stays at the greatest of 64 bits
pub record IsNoted (program : Program) (args : List Term) (looked old new : List ℕ) (tests : ℕ) : Type 0 where
  pub notes_are : new ≡ old ++ whose_pre_holds program args looked
  pub tests_are : tests ≡ min (length looked) (2 ^ 64 - 1)
