-- The clauses that an index selects for a call.
-- The headline does not rest on this file.
use Rattle.std.specs.Prelude.{ℕ, ◌-◌, List, map, slice_index_or}
use Rattle.clause_index.specs.declared.keys.Key.{Key}
use Rattle.clause_index.specs.Selected.{selected, keys_at}
use Rattle.term_heap.specs.Changes.{places}

-- the numbers of the clauses of a predicate that are selected by a key, in order
abbrev pub selected_at : List (List Key) → (pred : ℕ) → Key → List ℕ
selected_at index p key = selected (keys_at index p) key

-- the number at a place among them, and 0 where there is none
abbrev pub clause_number : List (List Key) → (pred : ℕ) → Key → (place : ℕ) → ℕ
clause_number index p key place = slice_index_or (selected_at index p key) place 0

-- those from a place on, before another
abbrev pub clauses_left : List (List Key) → (pred : ℕ) → Key → (next end : ℕ) → List ℕ
clauses_left index p key next end = map (clause_number index p key) (places next (end - next))
