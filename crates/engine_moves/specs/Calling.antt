-- What is done at a call.
-- The headline does not rest on this file.
use Rattle.std.specs.Prelude.{◌≡◌, ◌-◌, ◌^◌, ℕ, min, Bool, List, length, Option}
use Rattle.term_core.specs.declared.terms.Term.{Term}
use Rattle.prog_data.specs.declared.programs.Place.{Place}
use Rattle.prog_data.specs.Goals.{pred_of}
use Rattle.machine_model.specs.State.{Call, Choice, Doing, Failed, State, Going, Trace}
use Rattle.machine_model.specs.Step.{with_mark, mark_height}
use Rattle.machine_model.specs.LeanerLaws.{chosen}
use Rattle.clause_index.specs.Keys.{first_key}
use Rattle.clause_index.specs.Selected.{can_match}
use Rattle.term_heap.specs.Changes.{size_of, value_of}
use Rattle.prop_check.specs.Places.{row_at}
use Rattle.engine_state.specs.declared.engine.Engine as code
use Rattle.engine_state.specs.declared.tasks.Row.{Row}
use Rattle.engine_state.specs.declared.tasks.Exit as code_exit
use Rattle.engine_state.specs.Engines.{call_with, as_state}
use Rattle.engine_state.specs.Views.{row_of, as_exit}
use Rattle.engine_state.specs.Notes.{IsRowWithin}
use Rattle.engine_state.specs.StepsMade.{whose_pre_holds}
use Rattle.engine_state.specs.MoveLaws.{after_chosen}
use Rattle.engine_state.specs.Stages.{as_engine, choices_at, tasks_at, frame_now, call_frame, IsKept}
use Rattle.engine_state.specs.Turns.{GoesTo}
use Rattle.engine_moves.specs.declared.calls.Noted.{Noted}
use Rattle.engine_moves.specs.declared.looking.Kind.{Kind}
use Rattle.engine_moves.specs.declared.readings.Reading.{Reading}
use Rattle.engine_moves.specs.Readings.{tests_by}
use Rattle.engine_moves.specs.Looking.{looks_by, looked_by}

-- the terms of places in a row
abbrev pub terms_at : code.Engine → Row → List Term
terms_at e row = row_at e.heap.changes row.first row.count

-- the state in which a call is due
abbrev pub call_state : code.Engine → (pred : ℕ) → Row → (height : ℕ) → Place → (rest : ℕ) → State
call_state e pred args h place rest = as_state (as_engine e) (Doing (call_frame e pred args h place rest))

-- the conditions of a kind that a call looks at
abbrev pub looked_at : code.Engine → Reading → Kind → (pred : ℕ) → List ℕ
looked_at e reading kind pred = looked_by kind (looks_by e.program.now reading pred)

-- those of them whose Pre holds
abbrev pub noted_at : code.Engine → Reading → Kind → (pred : ℕ) → Row → List ℕ
noted_at e reading kind pred args = whose_pre_holds e.program.now (terms_at e args) (looked_at e reading kind pred)

-- notes were taken of the conditions of a kind, in a row, and else nothing was changed
pub record HasNoted (reading : Reading) (kind : Kind) (pred : ℕ) (args : Row) (old : code.Engine) (n : Noted) (new : code.Engine) : Type 0 where
  pub goes : GoesTo old (length old.links.items) (choices_at old) new
  pub within : IsRowWithin (length new.notes.items) n.row
  pub row_is : row_of new.notes.items n.row ≡ noted_at old reading kind pred args
  pub tests_are : n.tests ≡ min (length (looked_at old reading kind pred)) (2 ^ 64 - 1)

-- a mark of conditions was made, if there are any, and this is its height
pub record HasMarked (old : code.Engine) (pred : ℕ) (conds : List ℕ) (mark : Option ℕ) (new : code.Engine) : Type 0 where
  pub goes : GoesTo old (length old.links.items) (with_mark pred conds (choices_at old)) new
  pub mark_is : mark ≡ mark_height conds (choices_at old)

-- the call that has this exit and this link behind it, above the choices that there are
abbrev pub call_now : code.Engine → code_exit.Exit → (rest : ℕ) → Call
call_now e exit rest = call_with (value_of e.heap.changes) (tasks_at e rest) e.query (record { exit = as_exit e.notes.items exit; height = length (choices_at e); rest = rest })

-- whether the clause with a number can match a call with these arguments, by the first of them
abbrev pub matches_at : code.Engine → (pred : ℕ) → Row → (clause : ℕ) → Bool
matches_at e pred args = can_match e.program.now pred (first_key (terms_at e args))

-- the clauses of a call that can match, as choices
abbrev pub chosen_now : code.Engine → code_exit.Exit → (rest : ℕ) → List Choice
chosen_now e exit rest = chosen (matches_at e exit.pred exit.args) 0 (pred_of e.program.now exit.pred).clauses (call_now e exit rest)

-- what comes after the tests of a call, of which only the clauses that can match are to be tried
abbrev pub after_tests_at : Reading → (bound : ℕ) → code.Engine → (pred : ℕ) → Row → (rest : ℕ) → Trace
after_tests_at reading bound e pred args rest =
    after_chosen (tests_by e.program.now reading) e.program.now bound (matches_at e pred args) e.calls (size_of e.heap.changes) (choices_at e) pred (terms_at e args) (frame_now e (tasks_at e rest))

-- a call was made, after its tests: the run goes back to the first of its clauses that can match; so many tests of Pre were counted
pub record HasCalled (reading : Reading) (bound : ℕ) (pred : ℕ) (args : Row) (rest : ℕ) (old : code.Engine) (tests : ℕ) (new : code.Engine) : Type 0 where
  pub program : new.program.now ≡ old.program.now
  pub kept : IsKept new
  pub phase_is : (after_tests_at reading bound old pred args rest).phase ≡ Going (as_state (as_engine new) Failed)
  pub tests_are : tests ≡ min (after_tests_at reading bound old pred args rest).tests (2 ^ 64 - 1)
