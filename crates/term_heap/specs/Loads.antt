-- Terms that are put into cells.
-- The headline does not rest on this file.
use Rattle.std.specs.Prelude.{◌≡◌, ℕ, ◌+◌, ◌<◌, ◌≤◌, true, List, [], ◌∷◌, ◌++◌, length, map, ⊤}
use Rattle.std.specs.List.{AllByRecursion}
use Rattle.term_core.specs.declared.terms.Term.{Term}
use Rattle.term_core.specs.Terms.{instance, occurs}
use Rattle.term_heap.specs.declared.cells.Cell.{Cell}
use Rattle.term_heap.specs.Changes.{History, Grows, cell_term, grown, places, size_of, value_of, next_serial, NamesBelow, NameBelow}

-- each variable of a term is a place, counted from a base on, that is there
abbrev pub IsPlaced : ℕ → ℕ → Term → Type 0
IsPlaced size base t = (v : ℕ) → occurs v t ≡ true → v + base < size

-- the values that variables have which are counted from a base on
abbrev pub from_base : (ℕ → Term) → ℕ → ℕ → Term
from_base value base v = value (v + base)

-- the terms of a row of cells, whatever their places
abbrev pub RowIs : (ℕ → Term) → List Cell → List Term → Type 0
RowIs value [] [] = ⊤
RowIs value [] (t ∷ ts) = ⊥
RowIs value (c ∷ row) [] = ⊥
RowIs value (c ∷ row) (t ∷ ts) = ((at : ℕ) → cell_term value at c ≡ t) × RowIs value row ts

-- a term was put into new cells behind the old ones, and this is its own cell
pub record IsLoaded (old : List Cell) (base : ℕ) (t : Term) (new : List Cell) (c : Cell) : Type 0 where
  pub more : List Cell
  pub is_new : new ≡ old ++ more
  pub names : NameBelow (length old) more
  pub below : NamesBelow (length new) c
  pub is_term : (value : ℕ → Term) (at : ℕ) → cell_term (grown value (length old) more) at c ≡ instance (from_base value base) t

-- terms were put into new cells behind the old ones, and these are their own cells
pub record AreLoaded (old : List Cell) (base : ℕ) (ts : List Term) (new row : List Cell) : Type 0 where
  pub more : List Cell
  pub is_new : new ≡ old ++ more
  pub names : NameBelow (length old) more
  pub below : AllByRecursion (NamesBelow (length new)) row
  pub are_terms : (value : ℕ → Term) → RowIs (grown value (length old) more) row (map (instance (from_base value base)) ts)

-- terms were put into new cells behind the old ones, their own cells in a block
pub record IsBlock (old : List Cell) (base : ℕ) (ts : List Term) (new : List Cell) (first : ℕ) : Type 0 where
  pub more : List Cell
  pub is_new : new ≡ old ++ more
  pub names : NameBelow (length old) more
  pub within : first + length ts ≤ length new
  pub are_terms : (value : ℕ → Term) → map (grown value (length old) more) (places first (length ts)) ≡ map (instance (from_base value base)) ts

-- terms were put into a heap by one change; they are the terms of places in a row
pub record HasLoaded (old : History) (base : ℕ) (ts : List Term) (first : ℕ) (new : History) : Type 0 where
  pub cells : List Cell
  pub is_new : new ≡ record { changes = Grows cells (next_serial old.last) ∷ old.changes; last = next_serial old.last }
  pub within : first + length ts ≤ size_of new.changes
  pub are_terms : map (value_of new.changes) (places first (length ts)) ≡ map (instance (from_base (value_of old.changes) base)) ts
