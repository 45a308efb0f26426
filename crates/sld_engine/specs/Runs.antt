-- What contracts see of a run.
-- The headline does not rest on this file.
use Rattle.std.specs.Prelude.{◌≡◌, ◌+◌, ◌-◌, ◌^◌, ℕ, min, List, [], map, drop, length, Option, Some, option_map, ⊤}
use Rattle.term_core.specs.declared.terms.Term.{Term}
use Rattle.prog_data.specs.declared.programs.Program.{Program}
use Rattle.prog_data.specs.declared.events.Event.{Event}
use Rattle.prog_data.specs.declared.events.Event.TheVariants.{Broken}
use Rattle.prog_data.specs.declared.events.Ending.{Ending}
use Rattle.machine_model.specs.Tests.{Tests}
use Rattle.machine_model.specs.Run.{RunsBy}
use Rattle.machine_model.specs.Continues.{Left, Continues, IsNext}
use Rattle.engine_state.specs.declared.engine.Engine as code
use Rattle.engine_state.specs.declared.stages.Stage as code_stage
use Rattle.engine_state.specs.declared.stages.Stage.TheVariants as stage
use Rattle.engine_state.specs.Stages.{phase_of, IsWhole}
use Rattle.engine_moves.specs.declared.readings.Reading.{Reading}
use Rattle.sld_engine.specs.declared.state.RunState.{RunState}
use Rattle.engine_moves.specs.Readings.{tests_by}

-- the program that is run
abbrev pub program_of : RunState → Program
program_of r = r.program.now

-- how many calls may be made
abbrev pub bound_of : RunState → ℕ
bound_of r = r.bound

-- which conditions are tested
abbrev pub reading_of : RunState → Reading
reading_of r = r.reading

-- what is tested
abbrev pub tests_made_by : RunState → Tests
tests_made_by r = tests_by r.program.now r.reading

-- how many tests were made up to the last event, at most the greatest number of 64 bits
abbrev pub tests_of : RunState → ℕ
tests_of r = r.tests

-- what is left of a run, and nothing after want of memory: the conditions that were told and are still to be given, and the phase
abbrev pub left_of : RunState → Option Left
left_of r = option_map (λ p. record { untold = map Broken (drop r.given r.told.items); phase = p }) (phase_of r.engine r.stage)

-- what is left of a run is the whole run of the query
pub record Starts (program : Program) (query : Term) (bound : ℕ) (reading : Reading) (r : RunState) : Type 0 where
  pub whole : Left
  pub is : left_of r ≡ Some whole
  pub forth : (events : List Event) (tests : ℕ) (e : Ending) → Continues (tests_by program reading) program bound whole events tests e → RunsBy (tests_by program reading) program query bound events tests e
  pub back : (events : List Event) (tests : ℕ) (e : Ending) → RunsBy (tests_by program reading) program query bound events tests e → Continues (tests_by program reading) program bound whole events tests e

-- an event was told, which is the next of what was left before
pub record HasTold (old : RunState) (event : Event) (new : RunState) : Type 0 where
  pub before : Left
  pub after : Left
  pub was : left_of old ≡ Some before
  pub is : left_of new ≡ Some after
  pub made : ℕ
  pub counted : tests_of new ≡ min (tests_of old + made) (2 ^ 64 - 1)
  pub next : IsNext (tests_made_by old) (program_of old) (bound_of old) before event made after
