-- What is claimed of closed tables and of statuses.
-- The headline does not rest on this file.
use Rattle.std.specs.Prelude.{◌≡◌, ◌↔◌, ℕ, List, Some, true}
use Rattle.term_core.specs.declared.terms.Term.{Term, out-Term}
use Rattle.term_core.specs.Shapes.{parts_of}
use Rattle.prog_data.specs.declared.events.Event.{Event}
use Rattle.prog_data.specs.declared.events.Ending.{Ending}
use Rattle.prog_data.specs.declared.programs.Program.{Program}
use Rattle.prog_data.specs.declared.tables.Table.{Table}
use Rattle.prog_data.specs.Goals.{called_by, meets_entry}
use Rattle.prog_data.specs.Programs.{HasNoExit, IsProgram}
use Rattle.machine_model.specs.Erasure.{erase}
use Rattle.machine_model.specs.Instrumented.{instrumented}
use Rattle.machine_model.specs.Points.{Sound, SoundBy, Described}
use Rattle.machine_model.specs.Run.{Run, CheckRun}
use Rattle.machine_model.specs.Tests.{every_condition, told}
use Rattle.goal_transfer.specs.Tables.{Facts, table_seen, Closed}
use Rattle.goal_transfer.specs.Statuses.{statuses_of}

-- a closed table describes each call and each exit of every run of a query that meets an entry
abbrev pub ClosedDescribes : Program → Type 0
ClosedDescribes program = (table : Table) → IsProgram program → Closed program (table_seen table) → Described program table

-- the statuses by a closed table are true of each point
abbrev pub ClosedIsSound : Program → Type 0
ClosedIsSound program = (rows : List Facts) → IsProgram program → Closed program rows → Sound program (statuses_of program rows)

-- the statuses by a table that is closed for the program without conditions are true of each point of the run that tells each broken condition and goes on
abbrev pub ErasedIsSound : Program → Type 0
ErasedIsSound program = (rows : List Facts) → IsProgram program → Closed (erase program) rows → SoundBy (told (every_condition program)) program (statuses_of program rows)

-- so the run of a query that meets an entry is the run of the program that is instrumented by these statuses
abbrev pub Discharges : Program → Type 0
Discharges program = (rows : List Facts) → IsProgram program → HasNoExit program → Closed program rows → (query : Term) (bound p : ℕ) (es : List Event) (e : Ending) →
    called_by program query ≡ Some p → meets_entry program p (parts_of (out-Term query)) ≡ true →
    Run program query bound es e ↔ ((tests : ℕ) × CheckRun (instrumented program (statuses_of program rows)) query bound es tests e)
