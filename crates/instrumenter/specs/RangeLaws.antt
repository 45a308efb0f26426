-- What is true of each instrumented program.
-- The headline does not rest on this file.
use Rattle.std.specs.Prelude.{List}
use Rattle.prog_data.specs.declared.programs.Program.{Program}
use Rattle.prog_data.specs.declared.tables.Status.{Status}
use Rattle.prog_data.specs.Programs.{IsProgram, HasNoExit}
use Rattle.machine_model.specs.Instrumented.{instrumented}

-- the instrumented program is in range where the program is, and none of its bodies ends in an exit already
abbrev pub InstrumentedInRange : Type 0
InstrumentedInRange = (program : Program) (statuses : List Status) → IsProgram program → HasNoExit program → IsProgram (instrumented program statuses)
