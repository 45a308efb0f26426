-- From one event of a run over cells to the next.
-- The headline does not rest on this file.
use Rattle.std.specs.Prelude.{◌≡◌, ◌-◌, ◌^◌, ℕ, min, List, [], ◌∷◌, map, Option, None, Some}
use Rattle.prog_data.specs.declared.programs.Program.{Program}
use Rattle.prog_data.specs.declared.events.Event.{Event}
use Rattle.prog_data.specs.declared.events.Event.TheVariants.{Broken}
use Rattle.machine_model.specs.State.{Phase}
use Rattle.machine_model.specs.Tests.{Tests}
use Rattle.machine_model.specs.Continues.{at_phase, Leads, IsNext}
use Rattle.engine_state.specs.declared.engine.Engine as code
use Rattle.engine_state.specs.declared.stages.Stage as code_stage
use Rattle.engine_state.specs.Moves.{Moves}
use Rattle.engine_state.specs.Stages.{phase_of, IsWhole}
use Rattle.engine_moves.specs.declared.readings.Reading.{Reading}
use Rattle.engine_moves.specs.Readings.{tests_by}

module _ (what : Tests) (program : Program) (bound : ℕ) where
  -- a turn led from a phase to another: by a move that told these conditions, or to this event, which is the next
  abbrev pub IsTurn : Phase → Option Event → (told : List ℕ) → (tests : ℕ) → Phase → Type 0
  IsTurn old None told tests new = Moves what program bound old (record { events = map Broken told; tests = tests; phase = new })
  IsTurn old (Some event) told tests new = (told ≡ []) × IsNext what program bound (at_phase old) event tests (at_phase new)

  -- a run came from a phase to another: these conditions are to be told, or this event was told, which is the next
  abbrev pub IsCome : Phase → Option Event → (told : List ℕ) → (tests : ℕ) → Phase → Type 0
  IsCome old None told tests new = Leads what program bound (at_phase old) [] tests (record { untold = map Broken told; phase = new })
  IsCome old (Some event) told tests new = (told ≡ []) × IsNext what program bound (at_phase old) event tests (at_phase new)

-- an engine made a turn from a phase; so many tests were counted, at most the greatest number of 64 bits
pub record HasGone (reading : Reading) (bound : ℕ) (program : Program) (old : Phase) (event : Option Event) (told : List ℕ) (counted : ℕ) (new : code.Engine) (to : code_stage.Stage) : Type 0 where
  pub program_is : new.program.now ≡ program
  pub tests : ℕ
  pub counted_are : counted ≡ min tests (2 ^ 64 - 1)
  pub now : Phase
  pub is : phase_of new to ≡ Some now
  pub gone : IsTurn (tests_by program reading) program bound old event told tests now
  pub whole : IsWhole new to

-- an engine came from a phase, by any number of turns; so many tests were counted, at most the greatest number of 64 bits
pub record HasCome (reading : Reading) (bound : ℕ) (program : Program) (old : Phase) (event : Option Event) (told : List ℕ) (counted : ℕ) (new : code.Engine) (to : code_stage.Stage) : Type 0 where
  pub program_is : new.program.now ≡ program
  pub tests : ℕ
  pub counted_are : counted ≡ min tests (2 ^ 64 - 1)
  pub now : Phase
  pub is : phase_of new to ≡ Some now
  pub come : IsCome (tests_by program reading) program bound old event told tests now
  pub whole : IsWhole new to
