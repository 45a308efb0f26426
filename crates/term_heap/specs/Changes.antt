-- A heap as the changes that made it, the newest first: its cells, and the term of each place.
-- The headline does not rest on this file.
use Rattle.std.specs.Prelude.{◌≡◌, ℕ, zero, suc, ◌+◌, ◌<◌, ◌≤◌, false, nat_le, List, [], ◌∷◌, ◌++◌, map, length, reverse, slice_index_or, slice_set, if◌then◌else◌, min, ◌^◌, ◌-◌, ◌⊎◌, ⊤}
use Rattle.std.specs.List.{AllByRecursion}
use Rattle.term_core.specs.declared.terms.Term.{Term}
use Rattle.term_core.specs.declared.terms.Term as term
use Rattle.term_core.specs.Solutions.{with_value}
use Rattle.term_core.specs.Terms.{replace, occurs}
use Rattle.term_heap.specs.declared.cells.Cell.{Cell}
use Rattle.term_heap.specs.declared.cells.Cell.TheVariants.{Free, Ref, Int, Atom, Node}

-- a change, with its serial
pub data Change : Type 0 where
  -- these cells come at the end
  Grows : List Cell → (serial : ℕ) → Change
  -- a free cell becomes a reference to another place
  Binds : (at : ℕ) → (to : ℕ) → (serial : ℕ) → Change

-- the changes that were not taken back, the newest first, and the last serial that was given
pub record History : Type 0 where
  pub changes : List Change
  pub last : ℕ

-- the cell at a place
abbrev pub cell_at : List Cell → ℕ → Cell
cell_at cells at = slice_index_or cells at Free

-- the cells after these changes
abbrev pub cells_of : List Change → List Cell
cells_of [] = []
cells_of (Grows cells s ∷ older) = cells_of older ++ cells
cells_of (Binds at to s ∷ older) = slice_set (cells_of older) at (Ref to)

-- how many there are
abbrev pub size_of : List Change → ℕ
size_of changes = length (cells_of changes)

-- so many places from the first on
abbrev pub places : (first : ℕ) → (count : ℕ) → List ℕ
places first zero = []
places first (suc count) = first ∷ places (suc first) count

-- the term that a cell gives its place, by the terms of the places that it names
abbrev pub cell_term : (ℕ → Term) → (at : ℕ) → Cell → Term
cell_term value at Free = term.Var at
cell_term value at (Ref to) = value to
cell_term value at (Int n) = term.Int n
cell_term value at (Atom a) = term.Atom a
cell_term value at (Node f count first) = term.Node f (map value (places first count))

-- the values after new cells, from a place on
abbrev pub grown : (ℕ → Term) → ℕ → List Cell → ℕ → Term
grown value at [] = value
grown value at (cell ∷ cells) = grown (with_value value at (cell_term value at cell)) (suc at) cells

-- the term of each place: a free cell is a variable, and a binding puts the term of its place for the variable everywhere
abbrev pub value_of : List Change → ℕ → Term
value_of [] = term.Var
value_of (Grows cells s ∷ older) = grown (value_of older) (size_of older) cells
value_of (Binds at to s ∷ older) = λ i. replace at (value_of older to) (value_of older i)

-- whether a cell names only places below this one
abbrev pub NamesBelow : ℕ → Cell → Type 0
NamesBelow at (Ref to) = to < at
NamesBelow at (Node f count first) = first + count ≤ at
NamesBelow at other = ⊤

-- each of these cells, from a place on, names only places below its own
abbrev pub NameBelow : ℕ → List Cell → Type 0
NameBelow at [] = ⊤
NameBelow at (cell ∷ cells) = NamesBelow at cell × NameBelow (suc at) cells

-- whether a cell is no reference
abbrev pub IsEnd : Cell → Type 0
IsEnd (Ref to) = ⊥
IsEnd other = ⊤

-- a cell that may be bound to a place: it is free, and not in the place's term
pub record MayBind (changes : List Change) (at to : ℕ) : Type 0 where
  pub bound : at < size_of changes
  pub free : cell_at (cells_of changes) at ≡ Free
  pub place : to < size_of changes
  pub absent : occurs at (value_of changes to) ≡ false

-- what was made of nothing by such changes
abbrev pub IsMade : List Change → Type 0
IsMade [] = ⊤
IsMade (Grows cells s ∷ older) = NameBelow (size_of older) cells × IsMade older
IsMade (Binds at to s ∷ older) = MayBind older at to × IsMade older

-- the serial of a change
abbrev pub serial_of : Change → ℕ
serial_of (Grows cells s) = s
serial_of (Binds at to s) = s

-- their serials, the oldest first
abbrev pub serials : List Change → List ℕ
serials changes = map serial_of (reverse changes)

-- the serial after this one; the last value stays
abbrev pub next_serial : ℕ → ℕ
next_serial s = min (s + 1) (2 ^ 64 - 1)

-- a serial that comes after a last one: it is above it, or the last value
abbrev pub ComesAfter : (last : ℕ) → (serial : ℕ) → Type 0
ComesAfter last serial = (last < serial) ⊎ (serial ≡ 2 ^ 64 - 1)

-- each change has a serial up to this one
abbrev pub AreUpTo : ℕ → List Change → Type 0
AreUpTo last changes = AllByRecursion (λ c. serial_of c ≤ last) changes

-- the changes undone until that many are left
abbrev pub undone : ℕ → List Change → List Change
undone n [] = []
undone n (change ∷ older) = if nat_le (suc (length older)) n then change ∷ older else undone n older
