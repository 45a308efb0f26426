-- What a cell says of the term of a place, and its parts.
-- The headline does not rest on this file.
use Rattle.std.specs.Prelude.{◌≡◌, ℕ, ◌+◌, ◌<◌, ◌≤◌, List, map, slice_get, Some, ⊤}
use Rattle.term_core.specs.declared.terms.Term.{Term}
use Rattle.term_core.specs.declared.terms.Term as term
use Rattle.term_heap.specs.declared.cells.Cell.{Cell}
use Rattle.term_heap.specs.declared.cells.Cell.TheVariants.{Free, Ref, Int, Atom, Node}
use Rattle.term_heap.specs.Changes.{Change, size_of, value_of, places}
use Rattle.prop_check.specs.declared.looks.Parts.{Parts}

-- the terms of places in a row
abbrev pub row_at : List Change → (first : ℕ) → (count : ℕ) → List Term
row_at h first count = map (value_of h) (places first count)

-- a place is that of an argument in a row
abbrev pub HasArgument : List Change → (first : ℕ) → (count : ℕ) → (argument : ℕ) → (place : ℕ) → Type 0
HasArgument h first count argument place = (place < size_of h) × (slice_get (row_at h first count) argument ≡ Some (value_of h place))

-- the compound that has these terms as its parts
abbrev pub compound_at : List Change → (f : ℕ) → (first : ℕ) → (count : ℕ) → Term
compound_at h f first count = term.Node f (row_at h first count)

-- a term is what a cell says that is no reference
abbrev pub Says : List Change → Term → Cell → Type 0
Says h t Free = (v : ℕ) × (t ≡ term.Var v)
Says h t (Ref to) = ⊥
Says h t (Int n) = t ≡ term.Int n
Says h t (Atom a) = t ≡ term.Atom a
Says h t (Node f count first) = (t ≡ compound_at h f first count) × (first + count ≤ size_of h)

-- a cell is that of a compound with these parts
abbrev pub HasLast : Cell → Parts → Type 0
HasLast (Node f count first) parts = (parts.name ≡ f) × (parts.first ≡ first) × (parts.others + 1 ≡ count)
HasLast other parts = ⊥

-- a cell is not that of a compound with parts
abbrev pub HasNoLast : Cell → Type 0
HasNoLast (Node f count first) = count ≡ 0
HasNoLast other = ⊤
