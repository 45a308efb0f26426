-- The laws of the crates below that moves stand on, as one fact.
-- The headline does not rest on this file.
use Rattle.std.specs.Prelude.{ℕ, List}
use Rattle.prog_data.specs.declared.programs.Program.{Program}
use Rattle.prog_data.specs.Programs.{IsProgram}
use Rattle.machine_model.specs.State.{Choice}
use Rattle.machine_model.specs.Tests.{Tests}
use Rattle.machine_model.specs.LeanerLaws.{LeanerStatesAreFound}
use Rattle.engine_state.specs.Laws.{ChoicesStay}
use Rattle.engine_state.specs.Moments.{MomentsStay, MomentsGive}
use Rattle.engine_state.specs.MomentsWithin.{MomentsWithin}
use Rattle.engine_state.specs.Within.{TasksWithin, VariablesWithin}
use Rattle.engine_state.specs.Moves.{MovesCompose}
use Rattle.engine_state.specs.StepsMade.{GoalsMake, FailuresMake}
use Rattle.engine_state.specs.MoveLaws.{ClausesEnter, LeanersMove}
use Rattle.engine_state.specs.CellMoves.{CellsMove}

-- what choices, moments, cells and steps obey
pub record Relied : Type 0 where
  pub choices : ChoicesStay
  pub stay : (program : Program) → MomentsStay program
  pub give : (program : Program) → MomentsGive program
  pub within : (program : Program) → MomentsWithin program
  pub tasks : TasksWithin
  pub variables : VariablesWithin
  pub compose : (what : Tests) (program : Program) (bound : ℕ) → MovesCompose what program bound
  pub goals : (what : Tests) (program : Program) (bound made n : ℕ) (cs : List Choice) → GoalsMake what program bound made n cs
  pub failures : (what : Tests) (program : Program) (bound made n : ℕ) (cs : List Choice) → FailuresMake what program bound made n cs
  pub leaners : (what : Tests) (program : Program) (bound : ℕ) → IsProgram program → LeanersMove what program bound
  pub clauses : ClausesEnter
  pub cells : (what : Tests) (program : Program) (bound made : ℕ) (cs : List Choice) → IsProgram program → CellsMove what program bound made cs
  pub found : LeanerStatesAreFound
