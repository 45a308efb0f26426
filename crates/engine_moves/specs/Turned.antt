-- What a turn of an engine promises, by what is tested.
-- The headline does not rest on this file.
use Rattle.std.specs.Prelude.{◌≡◌, ◌-◌, ◌^◌, ℕ, min, List, Option, None, Some}
use Rattle.prog_data.specs.declared.programs.Program.{Program}
use Rattle.prog_data.specs.declared.events.Event.{Event}
use Rattle.machine_model.specs.State.{State, Phase, Going}
use Rattle.machine_model.specs.Tests.{Tests}
use Rattle.engine_state.specs.declared.engine.Engine as code
use Rattle.engine_state.specs.declared.stages.Stage as code_stage
use Rattle.engine_state.specs.Moves.{Moves}
use Rattle.engine_state.specs.Stages.{phase_of, IsWhole}
use Rattle.engine_moves.specs.declared.readings.Reading.{Reading}
use Rattle.engine_moves.specs.Readings.{tests_by}

-- a state leads to a phase, with these events and so many tests
abbrev pub IsMoveTo : Tests → Program → (bound : ℕ) → State → List Event → (tests : ℕ) → Option Phase → Type 0
IsMoveTo what program bound s events tests None = ⊥
IsMoveTo what program bound s events tests (Some p) = Moves what program bound (Going s) (record { events = events; tests = tests; phase = p })

-- an engine went on from a state of it, by what a reading tests, with these events; so many tests were counted, at most the greatest number of 64 bits
pub record HasTurned (reading : Reading) (bound : ℕ) (old : code.Engine) (from : State) (events : List Event) (counted : ℕ) (new : code.Engine) (to : code_stage.Stage) : Type 0 where
  pub program : new.program.now ≡ old.program.now
  pub tests : ℕ
  pub counted_are : counted ≡ min tests (2 ^ 64 - 1)
  pub moves : IsMoveTo (tests_by old.program.now reading) old.program.now bound from events tests (phase_of new to)
  pub whole : IsWhole new to
