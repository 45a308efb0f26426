-- Pairs of places whose terms are to be the same.
-- The headline does not rest on this file.
use Rattle.std.specs.Prelude.{◌≡◌, ◌<◌, ◌&&◌, ◌+◌, Bool, true, false, ℕ, zero, suc, List, [], ◌∷◌, ◌++◌, map, reverse}
use Rattle.std.specs.List.{list_all, AllByRecursion}
use Rattle.term_core.specs.declared.terms.Term.{Term}
use Rattle.term_core.specs.Terms.{same}
use Rattle.term_core.specs.Sizes.{size, total}
use Rattle.term_heap.specs.declared.cells.Cell.{Cell}
use Rattle.term_heap.specs.Changes.{Change, size_of, value_of}
use Rattle.unify_core.specs.Meets.{agrees, first_of, count_of}
use Rattle.engine_moves.specs.declared.builtins.comparing.Pair.{Pair}

-- so many places, each with the one in its position
abbrev pub paired : (left : ℕ) → (right : ℕ) → (count : ℕ) → List Pair
paired left right zero = []
paired left right (suc count) = record { left = left; right = right } ∷ paired (suc left) (suc right) count

-- whether the terms of each pair are the same
abbrev pub are_same : (ℕ → Term) → List Pair → Bool
are_same value ps = list_all (λ p. same (value p.left) (value p.right)) ps

-- each place is there
abbrev pub ArePlaces : ℕ → List Pair → Type 0
ArePlaces size ps = AllByRecursion (λ p. (p.left < size) × (p.right < size)) ps

-- how large the terms of the left places are
abbrev pub weight : (ℕ → Term) → List Pair → ℕ
weight value ps = total (map (λ p. size (value p.left)) ps)

-- two cells agree, and the pairs of their arguments were added, or they do not
abbrev pub Compared : Cell → Cell → List Pair → Bool → List Pair → Type 0
Compared left right before true after = (agrees left right ≡ true) × (after ≡ before ++ reverse (paired (first_of left) (first_of right) (count_of left)))
Compared left right before false after = (agrees left right ≡ false) × (after ≡ before)

-- two places were met: their terms, and those of the pairs before, are the same where they may be and the terms of the pairs after are
pub record HasMet (h : List Change) (left right : ℕ) (before : List Pair) (met : Bool) (after : List Pair) : Type 0 where
  pub same_are : (same (value_of h left) (value_of h right) && are_same (value_of h) before) ≡ (met && are_same (value_of h) after)
  pub lighter : weight (value_of h) after < size (value_of h left) + weight (value_of h) before
  pub places : ArePlaces (size_of h) before → ArePlaces (size_of h) after
