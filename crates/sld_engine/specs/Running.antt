-- What a run keeps.
-- The headline does not rest on this file.
use Rattle.std.specs.Prelude.{◌≡◌, ◌≤◌, ◌-◌, ◌^◌, ⊤}
use Rattle.prog_data.specs.declared.programs.Program.{Program}
use Rattle.engine_state.specs.declared.engine.Engine as code
use Rattle.engine_state.specs.declared.stages.Stage as code_stage
use Rattle.engine_state.specs.declared.stages.Stage.TheVariants as stage
use Rattle.engine_state.specs.Stages.{IsWhole}
use Rattle.sld_engine.specs.declared.state.RunState.{RunState}

-- the engine of a program and its stage; nothing where memory was refused
abbrev pub IsStageOf : Program → code.Engine → code_stage.Stage → Type 0
IsStageOf program e stage.Stuck = ⊤
IsStageOf program e (stage.Doing k) = (e.program.now ≡ program) × IsWhole e (stage.Doing k)
IsStageOf program e (stage.Goal g s) = (e.program.now ≡ program) × IsWhole e (stage.Goal g s)
IsStageOf program e (stage.Calling p args h place rest) = (e.program.now ≡ program) × IsWhole e (stage.Calling p args h place rest)
IsStageOf program e stage.Failed = (e.program.now ≡ program) × IsWhole e stage.Failed
IsStageOf program e (stage.Over ending) = e.program.now ≡ program

-- a run has the engine and the stage of its program, and a number of tests of 64 bits
pub record IsRunning (r : RunState) : Type 0 where
  pub stage : IsStageOf r.program.now r.engine r.stage
  pub counted : r.tests ≤ 2 ^ 64 - 1
