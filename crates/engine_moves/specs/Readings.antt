-- What a run tests, by its reading.
-- The headline does not rest on this file.
use Rattle.prog_data.specs.declared.programs.Program.{Program}
use Rattle.machine_model.specs.Tests.{Tests, every_condition, kept_checks, told}
use Rattle.engine_moves.specs.declared.readings.Reading.{Reading}
use Rattle.engine_moves.specs.declared.readings.Reading.TheVariants.{All, Kept, AllTold, KeptTold}

-- the tests of a reading
abbrev pub tests_by : Program → Reading → Tests
tests_by program All = every_condition program
tests_by program Kept = kept_checks program
tests_by program AllTold = told (every_condition program)
tests_by program KeptTold = told (kept_checks program)
