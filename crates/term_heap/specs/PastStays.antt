-- What later changes leave as it was.
-- The headline does not rest on this file.
use Rattle.std.specs.Prelude.{◌≡◌, ◌≤◌, ◌<◌, ◌^◌, ℕ, List, ◌∷◌, ◌++◌, length}
use Rattle.std.specs.List.{AllByRecursion}
use Rattle.term_heap.specs.declared.cells.Cell.{Cell}
use Rattle.term_heap.specs.declared.cells.Cell.TheVariants.{Free}
use Rattle.term_heap.specs.Changes.{Change, History, Grows, Binds, cells_of, cell_at, size_of, undone, IsMade, ComesAfter, serial_of, next_serial}

-- changes were made since, with serials that come after the last one, which has not fallen
pub record GoesOn (old new : History) : Type 0 where
  pub more : List Change
  pub is_new : new.changes ≡ more ++ old.changes
  pub serials : AllByRecursion (λ c. ComesAfter old.last (serial_of c)) more
  pub last : old.last ≤ new.last

-- the history after one more change
abbrev pub with_change : History → (ℕ → Change) → History
with_change old change = record { changes = change (next_serial old.last) ∷ old.changes; last = next_serial old.last }

-- later changes leave the history at each earlier length; they take no cell away, and change only cells that are free
pub record PastStays : Type 0 where
  pub lengths : (n : ℕ) (more old : List Change) → n ≤ length old → undone n (more ++ old) ≡ undone n old
  pub sizes : (more old : List Change) → size_of old ≤ size_of (more ++ old)
  pub cells : (more old : List Change) (at : ℕ) → IsMade (more ++ old) → at < size_of old → (cell_at (cells_of old) at ≡ Free → ⊥) → cell_at (cells_of (more ++ old)) at ≡ cell_at (cells_of old) at
  -- what each change of the heap does, and what several do one after the other
  pub grows : (old : History) (cells : List Cell) → old.last < 2 ^ 64 → GoesOn old (with_change old (Grows cells))
  pub binds : (old : History) (at to : ℕ) → old.last < 2 ^ 64 → GoesOn old (with_change old (Binds at to))
  pub joined : (first mid last : History) → GoesOn first mid → GoesOn mid last → GoesOn first last
