-- Which conditions the expansion of an instrumented program has.
-- The headline does not rest on this file.
use Rattle.std.specs.Prelude.{◌≡◌, ◌<◌, ℕ, List, filter, length}
use Rattle.prog_data.specs.declared.programs.Program.{Program}
use Rattle.prog_data.specs.declared.tables.Status.{Status}
use Rattle.prog_data.specs.Goals.{pred_of}
use Rattle.prog_data.specs.Programs.{IsProgram}
use Rattle.machine_model.specs.Instrumented.{kept, instrumented_pred}
use Rattle.run_report.specs.Expansion.{is_kept_in}

-- of each predicate of a program in range, exactly the conditions whose status is not checked
abbrev pub ExpandsKept : Type 0
ExpandsKept = (program : Program) (statuses : List Status) → IsProgram program → (p : ℕ) → p < length program.preds →
    filter (is_kept_in (instrumented_pred program statuses (pred_of program p))) (pred_of program p).conds ≡ kept statuses (pred_of program p).conds
