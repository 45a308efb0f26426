-- Rows of notes, and what leaves them as they are.
-- The headline does not rest on this file.
use Rattle.std.specs.Prelude.{◌≡◌, ◌≤◌, ◌+◌, ℕ, List, ◌++◌, take, length, ⊤}
use Rattle.std.specs.List.{AllByRecursion}
use Rattle.clause_index.specs.declared.keys.Key.{Key}
use Rattle.engine_state.specs.declared.tasks.Row.{Row}
use Rattle.engine_state.specs.declared.tasks.Task as code_task
use Rattle.engine_state.specs.declared.tasks.Task.TheVariants as task
use Rattle.engine_state.specs.declared.tasks.Link as code_link
use Rattle.engine_state.specs.declared.points.Alternative as code_alternative
use Rattle.engine_state.specs.declared.points.Alternative.TheVariants as alternative
use Rattle.engine_state.specs.declared.points.ChoicePoint as code_point
use Rattle.engine_state.specs.Views.{row_of, as_links, as_points}

-- a row of so many notes
abbrev pub IsRowWithin : ℕ → Row → Type 0
IsRowWithin held row = row.first + row.count ≤ held

-- the notes that a task uses are among so many
abbrev pub IsTaskNoted : ℕ → code_task.Task → Type 0
IsTaskNoted held (task.Runs goal base h place) = ⊤
IsTaskNoted held (task.Cuts h) = ⊤
IsTaskNoted held (task.Fails h place) = ⊤
IsTaskNoted held (task.Leaves e) = IsRowWithin held e.noted

-- so of an alternative
abbrev pub IsAlternativeNoted : ℕ → code_alternative.Alternative → Type 0
IsAlternativeNoted held (alternative.Resumes rest) = ⊤
IsAlternativeNoted held (alternative.Retries key next end c) = IsRowWithin held c.exit.noted
IsAlternativeNoted held (alternative.Marks p conds exited) = IsRowWithin held conds

-- so of links
abbrev pub AreLinksNoted : ℕ → List code_link.Link → Type 0
AreLinksNoted held links = AllByRecursion (λ l. IsTaskNoted held l.task) links

-- so of choice points
abbrev pub ArePointsNoted : ℕ → List code_point.ChoicePoint → Type 0
ArePointsNoted held points = AllByRecursion (λ p. IsAlternativeNoted held p.alternative) points

-- notes behind those that are held change none of these
pub record NotesStay : Type 0 where
  pub rows : (held : ℕ) (old more : List ℕ) (row : Row) → held ≤ length old → IsRowWithin held row → row_of (take held old ++ more) row ≡ row_of old row
  pub links : (held : ℕ) (old more : List ℕ) (items : List code_link.Link) → held ≤ length old → AreLinksNoted held items → as_links (take held old ++ more) items ≡ as_links old items
  pub points : (index : List (List Key)) (held : ℕ) (old more : List ℕ) (items : List code_point.ChoicePoint) → held ≤ length old → ArePointsNoted held items → as_points index (take held old ++ more) items ≡ as_points index old items
