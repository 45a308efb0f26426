-- What is kept where links and notes are let go.
-- The headline does not rest on this file.
use Rattle.std.specs.Prelude.{◌≡◌, ◌≤◌, ℕ, List, length, max, reverse}
use Rattle.prog_data.specs.declared.programs.Program.{Program}
use Rattle.term_heap.specs.Changes.{Change}
use Rattle.clause_index.specs.declared.keys.Key.{Key}
use Rattle.engine_state.specs.declared.tasks.Link as code_link
use Rattle.engine_state.specs.declared.points.ChoicePoint as code_point
use Rattle.engine_state.specs.Engines.{chain}
use Rattle.engine_state.specs.Views.{as_links, as_points}
use Rattle.engine_state.specs.Moments.{links_held, HasMoments}

-- links and notes were let go: the tasks from the links up to one on and up to those that the choice points hold stay, the choice points stay, and all have their moments
pub record IsLetGo (program : Program) (query : ℕ) (changes : List Change) (rest : ℕ) (notes : List ℕ) (links : List code_link.Link) (points : List code_point.ChoicePoint) (new_notes : List ℕ) (new_links : List code_link.Link) : Type 0 where
  pub chains : (j : ℕ) → j ≤ max (links_held (reverse points)) rest → chain (as_links new_notes new_links) j ≡ chain (as_links notes links) j
  pub points_are : (index : List (List Key)) → as_points index new_notes points ≡ as_points index notes points
  pub there : rest ≤ length new_links
  pub moments : HasMoments program query changes new_notes new_links points
