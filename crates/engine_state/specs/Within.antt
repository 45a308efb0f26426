-- Tasks, links and choice points whose cells are among so many, and what that gives.
-- The headline does not rest on this file.
use Rattle.std.specs.Prelude.{◌≡◌, ◌≤◌, ◌<◌, ◌+◌, ℕ, true, List, ◌∷◌, ⊤}
use Rattle.std.specs.List.{AllByRecursion}
use Rattle.term_core.specs.declared.terms.Term.{Term}
use Rattle.term_core.specs.Terms.{instance}
use Rattle.prog_data.specs.declared.goals.Goal.{Goal}
use Rattle.prog_data.specs.declared.programs.Place.{Place}
use Rattle.prog_data.specs.declared.programs.Program.{Program}
use Rattle.prog_data.specs.Goals.{goal_instance}
use Rattle.prog_data.specs.Ranges.{is_goal_of}
use Rattle.machine_model.specs.State.{frame_instance}
use Rattle.machine_model.specs.LeanerLaws.{below, IsFrameBelow, AreBelow}
use Rattle.term_heap.specs.declared.cells.Cell.{Cell}
use Rattle.term_heap.specs.Changes.{Change, Grows, size_of, value_of, undone, IsMade}
use Rattle.engine_state.specs.Engines.{Task, Runs, Cuts, Leaves, Link, chain, Alternative, Resumes, Retries, Marks, ChoicePoint, frame_with, choices_of}

-- a task's cells are among so many; the variables of its goal are so many from its base on
abbrev pub IsTaskWithin : (cells : ℕ) → Task → Type 0
IsTaskWithin cells (Runs g base h place) = (vars : ℕ) × (goal_instance (below vars) g ≡ g) × (base + vars ≤ cells)
IsTaskWithin cells (Cuts h) = ⊤
IsTaskWithin cells (Leaves e) = e.first + e.count ≤ cells

-- so are those of all tasks
abbrev pub AreTasksWithin : (cells : ℕ) → List Task → Type 0
AreTasksWithin cells tasks = AllByRecursion (IsTaskWithin cells) tasks

-- and those of links
abbrev pub AreLinksWithin : (cells : ℕ) → List Link → Type 0
AreLinksWithin cells links = AllByRecursion (λ l. IsTaskWithin cells l.task) links

-- an alternative's cells, and those of the tasks behind it, are among so many
abbrev pub IsAlternativeWithin : (cells : ℕ) → List Link → Alternative → Type 0
IsAlternativeWithin cells links (Resumes rest) = AreTasksWithin cells (chain links rest)
IsAlternativeWithin cells links (Retries left c) = (c.exit.first + c.exit.count ≤ cells) × AreTasksWithin cells (chain links c.rest)
IsAlternativeWithin cells links (Marks p conds exited) = ⊤

-- the cells of a choice point and the query were there at its moment
abbrev pub IsPointWithin : List Change → List Link → (query : ℕ) → ChoicePoint → Type 0
IsPointWithin changes links query p = (query < size_of (undone p.trail changes)) × IsAlternativeWithin (size_of (undone p.trail changes)) links p.alternative

-- so of all choice points
abbrev pub ArePointsWithin : List Change → List Link → (query : ℕ) → List ChoicePoint → Type 0
ArePointsWithin changes links query points = AllByRecursion (IsPointWithin changes links query) points

-- tasks whose cells are among so many see no other place
pub record TasksWithin : Type 0 where
  -- values of these cells that are instances of others make the frame an instance
  pub follow : (cells : ℕ) (value old new : ℕ → Term) → ((i : ℕ) → i < cells → new i ≡ instance value (old i)) → (tasks : List Task) (query : ℕ) → AreTasksWithin cells tasks → query < cells →
      frame_with new tasks query ≡ frame_instance value (frame_with old tasks query)
  -- the same values of these cells leave the frame as it is
  pub stay : (cells : ℕ) (old new : ℕ → Term) → ((i : ℕ) → i < cells → new i ≡ old i) → (tasks : List Task) (query : ℕ) → AreTasksWithin cells tasks → query < cells → frame_with new tasks query ≡ frame_with old tasks query
  -- new cells leave the values of those that were there
  pub grown : (changes : List Change) (cells : List Cell) (s i : ℕ) → i < size_of changes → value_of (Grows cells s ∷ changes) i ≡ value_of changes i
  -- cells among so many are among more
  pub more : (cells most : ℕ) (tasks : List Task) → cells ≤ most → AreTasksWithin cells tasks → AreTasksWithin most tasks
  -- the tasks from a link on are those of links
  pub chained : (cells : ℕ) (links : List Link) (k : ℕ) → AreLinksWithin cells links → AreTasksWithin cells (chain links k)
  -- a goal in range, whose variables are among so many
  pub ranged : (program : Program) (cells vars base h : ℕ) (g : Goal) (place : Place) → is_goal_of program vars g ≡ true → base + vars ≤ cells → IsTaskWithin cells (Runs g base h place)

-- the variables of frames and choices whose cells are there are cells that are there
pub record VariablesWithin : Type 0 where
  pub frames : (changes : List Change) (tasks : List Task) (query : ℕ) → IsMade changes → AreTasksWithin (size_of changes) tasks → query < size_of changes → IsFrameBelow (size_of changes) (frame_with (value_of changes) tasks query)
  pub choices : (changes : List Change) (links : List Link) (query : ℕ) (points : List ChoicePoint) → IsMade changes → ArePointsWithin changes links query points → AreBelow (size_of changes) (choices_of changes links query points)
