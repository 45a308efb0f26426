-- Which predicates wait, by a flag for each.
-- The headline does not rest on this file.
use Rattle.std.specs.Prelude.{◌≡◌, ℕ, ◌+◌, Bool, true, false, List, [], ◌∷◌, slice_index_or, slice_set}
use Rattle.fixpoint_analyser.specs.Heights.{one}

-- whether a predicate waits
abbrev pub waits : List Bool → ℕ → Bool
waits flags p = slice_index_or flags p false

-- how many wait
abbrev pub number_waiting : List Bool → ℕ
number_waiting [] = 0
number_waiting (f ∷ fs) = one f + number_waiting fs

-- a queue has each predicate that waits, once
abbrev pub IsQueue : List Bool → List ℕ → Type 0
IsQueue flags [] = (p : ℕ) → waits flags p ≡ false
IsQueue flags (p ∷ ps) = (waits flags p ≡ true) × IsQueue (slice_set flags p false) ps
