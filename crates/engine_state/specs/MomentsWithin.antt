-- What links and choice points that have their moments say of cells.
-- The headline does not rest on this file.
use Rattle.std.specs.Prelude.{ℕ, List, map}
use Rattle.prog_data.specs.declared.programs.Program.{Program}
use Rattle.clause_index.specs.declared.keys.Key.{Key}
use Rattle.term_heap.specs.Changes.{Change, size_of}
use Rattle.engine_state.specs.declared.tasks.Task as code_task
use Rattle.engine_state.specs.declared.tasks.Link as code_link
use Rattle.engine_state.specs.declared.points.ChoicePoint as code_point
use Rattle.engine_state.specs.Views.{as_task, as_link, as_point}
use Rattle.engine_state.specs.Moments.{IsTaskPlaced, Moments}
use Rattle.engine_state.specs.Within.{IsTaskWithin, AreLinksWithin, ArePointsWithin}

-- a task that is placed has its cells among those that there are; links and choice points that have their moments have them among those of now, and of the moment of each choice point
pub record MomentsWithin (program : Program) : Type 0 where
  pub tasks : (notes : List ℕ) (cells : ℕ) (t : code_task.Task) → IsTaskPlaced program cells t → IsTaskWithin cells (as_task notes t)
  pub links_are : (notes : List ℕ) (query : ℕ) (changes : List Change) (used : ℕ) (links : List code_link.Link) (points : List code_point.ChoicePoint) → Moments program query changes used links points → AreLinksWithin (size_of changes) (map (as_link notes) links)
  pub points_are : (index : List (List Key)) (notes : List ℕ) (query : ℕ) (changes : List Change) (used : ℕ) (links : List code_link.Link) (points : List code_point.ChoicePoint) → Moments program query changes used links points →
      ArePointsWithin changes (map (as_link notes) links) query (map (as_point index notes) points)
