-- The program with call checks and Exit goals for exactly the conditions that are kept.
-- The headline does not rest on this file.
use Rattle.std.specs.Prelude.{ℕ, Bool, true, false, not, List, [], ◌∷◌, ◌++◌, map, filter, slice_get, Option, Some, if◌then◌else◌}
use Rattle.prog_data.specs.declared.goals.Goal.{Goal, out-Goal}
use Rattle.prog_data.specs.declared.goals.Goal as goal
use Rattle.prog_data.specs.declared.goals.Goal.TheOpen.{Goal-F, True}
use Rattle.prog_data.specs.declared.programs.Check.{Check}
use Rattle.prog_data.specs.declared.programs.Check.TheVariants as check
use Rattle.prog_data.specs.declared.programs.Clause.{Clause}
use Rattle.prog_data.specs.declared.programs.Pred.{Pred}
use Rattle.prog_data.specs.declared.programs.Program.{Program}
use Rattle.prog_data.specs.declared.tables.Status.{Status}
use Rattle.prog_data.specs.declared.tables.Status.TheVariants as status
use Rattle.machine_model.specs.Tests.{all_looks}

-- whether a status is checked
abbrev pub is_checked : Option Status → Bool
is_checked (Some status.Checked) = true
is_checked other = false

-- whether the status of a condition is not checked
abbrev pub is_kept : List Status → ℕ → Bool
is_kept statuses c = not (is_checked (slice_get statuses c))

-- the conditions among these whose status is not checked
abbrev pub kept : List Status → List ℕ → List ℕ
kept statuses cs = filter (is_kept statuses) cs

-- one mark of the kept comp conditions, if there are any
abbrev pub one_mark : List ℕ → List Check
one_mark [] = []
one_mark (c ∷ cs) = check.Mark (c ∷ cs) ∷ []

-- whether an exit tests something
abbrev pub has_exit : List ℕ → List ℕ → Bool
has_exit [] [] = false
has_exit [] (c ∷ marks) = true
has_exit (c ∷ notes) marks = true

-- a body that ends in Exit
abbrev pub with_exit_at : Goal → Goal-F Goal → Goal
with_exit_at body True = goal.Exit
with_exit_at body other = goal.Conj body goal.Exit

-- a clause whose body ends in Exit
abbrev pub with_exit : Clause → Clause
with_exit c = record c { body = with_exit_at c.body (out-Goal c.body) }

module _ (program : Program) (statuses : List Status) where
  -- a predicate with the call checks of its kept conditions, and with Exit in its clauses where an exit tests something
  abbrev pub instrumented_pred : Pred → Pred
  instrumented_pred p =
      let looks = all_looks program p in
      let notes = kept statuses looks.notes in
      let marks = kept statuses looks.marks in
      record p {
        clauses = if has_exit notes marks then map with_exit p.clauses else p.clauses;
        call_checks = map check.Calls (kept statuses looks.calls) ++ map check.Note notes ++ one_mark marks;
      }

  -- the program with these predicates
  abbrev pub instrumented : Program
  instrumented = record program { preds = map instrumented_pred program.preds }
