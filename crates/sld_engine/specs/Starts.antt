-- The start of a run over cells.
-- The headline does not rest on this file.
use Rattle.std.specs.Prelude.{◌≡◌, ℕ, Option, None, Some}
use Rattle.term_core.specs.declared.terms.Term.{Term}
use Rattle.prog_data.specs.declared.programs.Program.{Program}
use Rattle.term_heap.specs.declared.cells.Cell.{Cell}
use Rattle.term_heap.specs.declared.cells.Cell.TheVariants as cell
use Rattle.engine_state.specs.declared.tasks.Row.{Row}
use Rattle.machine_model.specs.Run.{start_of}
use Rattle.engine_state.specs.declared.engine.Engine as code
use Rattle.engine_state.specs.declared.stages.Stage as code_stage
use Rattle.engine_state.specs.Stages.{phase_of, IsWhole}
use Rattle.engine_state.specs.Turns.{IsSamePhase}

-- the places of the arguments of a compound's cell
abbrev pub arguments_row : Cell → Row
arguments_row (cell.Node f count first) = record { first = first; count = count }
arguments_row other = record { first = 0; count = 0 }

-- an engine and its stage are those of a run of a query before its first event, a call of this predicate
pub record HasStarted (program : Program) (pred : ℕ) (query : Term) (e : code.Engine) (to : code_stage.Stage) : Type 0 where
  pub program_is : e.program.now ≡ program
  pub same : IsSamePhase program (start_of pred query) (phase_of e to)
  pub whole : IsWhole e to
