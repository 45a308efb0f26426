-- The history that cells and a trail hold.
-- The headline does not rest on this file.
use Rattle.std.specs.Prelude.{◌≡◌, ◌<◌, ◌^◌, ℕ, List, [], ◌∷◌, reverse, take, drop, slice_set}
use Rattle.term_heap.specs.declared.cells.Cell.{Cell}
use Rattle.term_heap.specs.declared.cells.Cell.TheVariants.{Free, Ref}
use Rattle.term_heap.specs.declared.trails.Entry.{Entry}
use Rattle.term_heap.specs.declared.trails.Entry.TheVariants.{Grew, Bound}
use Rattle.term_heap.specs.Changes.{Change, Grows, Binds, cell_at, cells_of, IsMade, AreUpTo}

-- the place to which a cell refers
abbrev pub reference : Cell → ℕ
reference (Ref to) = to
reference other = 0

-- the changes of which the trail, its newest entry first, has left these cells
abbrev pub changes_of : List Cell → List Entry → List Change
changes_of cells [] = []
changes_of cells (Grew from s ∷ older) = Grows (drop from cells) s ∷ changes_of (take from cells) older
changes_of cells (Bound at s ∷ older) = Binds at (reference (cell_at cells at)) s ∷ changes_of (slice_set cells at Free) older

-- the serial of the change that an entry tells
abbrev pub entry_serial : Entry → ℕ
entry_serial (Grew from s) = s
entry_serial (Bound at s) = s

-- cells are those of the changes that they and the trail tell, whose serials are up to the last one
pub record IsKept (cells : List Cell) (trail : List Entry) (last : ℕ) : Type 0 where
  pub same : cells_of (changes_of cells (reverse trail)) ≡ cells
  pub made : IsMade (changes_of cells (reverse trail))
  pub given : AreUpTo last (changes_of cells (reverse trail))
  pub small : last < 2 ^ 64
