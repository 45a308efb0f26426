-- An alternative that failure went back to.
-- The headline does not rest on this file.
use Rattle.std.specs.Prelude.{◌≤◌, length, Option, None, Some}
use Rattle.prog_data.specs.declared.events.Ending.{Ending}
use Rattle.machine_model.specs.Leaner.{IsLeaner}
use Rattle.term_heap.specs.Changes.{size_of}
use Rattle.engine_state.specs.declared.engine.Engine as code
use Rattle.engine_state.specs.declared.points.Alternative as code_alternative
use Rattle.engine_state.specs.declared.stages.Stage as code_stage
use Rattle.engine_state.specs.declared.stages.Stage.TheVariants as stage
use Rattle.engine_state.specs.Stacks.{width}
use Rattle.engine_state.specs.Views.{as_alternative}
use Rattle.engine_state.specs.Notes.{IsAlternativeNoted}
use Rattle.engine_state.specs.Moments.{IsWide, IsAlternativePlaced}
use Rattle.engine_state.specs.Stages.{IsKept}
use Rattle.engine_state.specs.Turns.{back_state}

-- an engine went back to a choice, which an alternative stands for: what this names is there, and the state has its heights and its variables in order
pub record IsBackAt (e : code.Engine) (a : code_alternative.Alternative) : Type 0 where
  pub kept : IsKept e
  pub own : IsLeaner e.program.now (back_state e a) (back_state e a)
  pub placed : IsAlternativePlaced e.program.now (size_of e.heap.changes) (length e.links.items) a
  pub noted : IsAlternativeNoted (length e.notes.items) a
  pub wide : IsWide a
  pub single : width (as_alternative e.index e.notes.items a) ≤ 1

-- the stage behind tests of a failure
abbrev pub failed_unless : Option Ending → code_stage.Stage
failed_unless None = stage.Failed
failed_unless (Some ending) = stage.Over ending
