-- What is done at an exit of a call.
-- The headline does not rest on this file.
use Rattle.std.specs.Prelude.{◌≤◌, ℕ, List, ◌∷◌, length}
use Rattle.machine_model.specs.State.{State}
use Rattle.machine_model.specs.Step.{mark_of, mark_conds, mark_exited}
use Rattle.term_heap.specs.Changes.{size_of}
use Rattle.engine_state.specs.declared.engine.Engine as code
use Rattle.engine_state.specs.declared.findings.Counted.{Counted}
use Rattle.engine_state.specs.declared.tasks.Exit as code_exit
use Rattle.engine_state.specs.Engines.{Leaves}
use Rattle.engine_state.specs.Views.{row_of, as_exit}
use Rattle.engine_state.specs.Notes.{IsRowWithin}
use Rattle.engine_state.specs.Moments.{IsCallPlaced}
use Rattle.engine_state.specs.Tested.{Tested, HasTested, tested_then}
use Rattle.engine_state.specs.Findings.{IsAdded}
use Rattle.engine_state.specs.StepsMade.{found_at_exit, found_at_mark}
use Rattle.engine_state.specs.Stages.{choices_at, tasks_at, doing}
use Rattle.engine_moves.specs.declared.readings.Reading.{Reading}
use Rattle.engine_moves.specs.Readings.{tests_by}
use Rattle.engine_moves.specs.Calling.{terms_at}

-- the state in which an exit is due, before the tasks from a link on
abbrev pub exit_state : code.Engine → code_exit.Exit → (rest : ℕ) → State
exit_state e exit rest = doing e (Leaves (as_exit e.notes.items exit) ∷ tasks_at e rest)

-- what an exit names is there, and so is the link behind it
abbrev pub IsExitPlaced : code.Engine → code_exit.Exit → (rest : ℕ) → Type 0
IsExitPlaced e exit rest = IsCallPlaced e.program.now (size_of e.heap.changes) exit.pred exit.args × IsRowWithin (length e.notes.items) exit.noted × (rest ≤ length e.links.items)

-- the notes of an exit were tested, and then the conditions of its mark, and what that gave was added to the conditions told
pub record HasTestedExit (reading : Reading) (e : code.Engine) (exit : code_exit.Exit) (told told' : List ℕ) (counted : Counted) : Type 0 where
  pub first : Tested
  pub second : Tested
  pub notes : HasTested (tests_by e.program.now reading).stops 1 (found_at_exit e.program.now (terms_at e exit.args)) (row_of e.notes.items exit.noted) first
  pub mark : HasTested (tests_by e.program.now reading).stops 0 (found_at_mark e.program.now (mark_exited (mark_of exit.mark (choices_at e)))) (mark_conds (mark_of exit.mark (choices_at e))) second
  pub added : IsAdded told 0 (tested_then first second) told' counted.tests counted.ended
