-- The variables of a heap's terms are cells that are there.
use Rattle.std.proofs.Common.{◌≡◌, ◌≤◌, ◌<◌, ◌⊎◌, inl, inr, ℕ, zero, suc, ◌+◌, Bool, true, List, map, refl, sym, ap, ◌∙◌, arith, true≢false}
use Rattle.std.proofs.lemmas.Bool.{cases_eq, or_cases, ne_eqb}
use Rattle.std.specs.List.{list_any}
use Rattle.term_core.specs.declared.terms.Term.{Term}
use Rattle.term_core.specs.Terms.{occurs, occurs_step}
use Rattle.term_core.proofs.TermFolds.{fold-Int, fold-Atom}
use Rattle.term_core.proofs.Occurrences.{occurs-Node, occurs-Var}
use Rattle.term_heap.specs.declared.cells.Cell.{Cell}
use Rattle.term_heap.specs.declared.cells.Cell.TheVariants as cell
use Rattle.term_heap.specs.Changes.{Change, cells_of, cell_at, size_of, value_of, cell_term, places, IsMade}
use Rattle.term_heap.specs.Ranks.{rank, Names}
use Rattle.term_heap.proofs.ValueLaws.{fits, names_in}
use Rattle.term_heap.proofs.RankLaws.{falls, named_below}

module _ (n v : ℕ) (value : ℕ → Term) where
  -- what stands in the terms of places in a row
  in_places : (first count : ℕ) → ((k : ℕ) → first ≤ k → k < first + count → occurs v (value k) ≡ true → v < n) → list_any (λ b. b) (map (occurs v) (map value (places first count))) ≡ true → v < n
  in_places first zero each o = absurd (true≢false (sym o))
  in_places first (suc count) each o = by_place (or_cases (occurs v (value first)) (list_any (λ b. b) (map (occurs v) (map value (places (suc first) count)))) o) (in_places (suc first) count (λ k le lt. each k (omega (arith, le)) (omega (arith, lt)))) where
    by_place : (occurs v (value first) ≡ true) ⊎ (list_any (λ b. b) (map (occurs v) (map value (places (suc first) count))) ≡ true) → (list_any (λ b. b) (map (occurs v) (map value (places (suc first) count))) ≡ true → v < n) → v < n
    by_place (inl here) further = each first (omega arith) (omega arith) here
    by_place (inr there) further = further there

  -- what stands in the term that a cell gives
  in_cell : (i : ℕ) (c : Cell) → i < n → ((k : ℕ) → Names k c → occurs v (value k) ≡ true → v < n) → occurs v (cell_term value i c) ≡ true → v < n
  in_cell i cell.Free lt each o = by_test (cases_eq v i) where
    by_test : (v ≡ i) ⊎ (v ≡ i → ⊥) → v < n
    by_test (inl e) = omega (arith, e, lt)
    by_test (inr ne) = absurd (true≢false (sym o ∙ occurs-Var v i ∙ ne_eqb v i ne))
  in_cell i (cell.Ref to) lt each o = each to refl o
  in_cell i (cell.Int m) lt each o = absurd (true≢false (sym o ∙ fold-Int Bool (occurs_step v) m))
  in_cell i (cell.Atom a) lt each o = absurd (true≢false (sym o ∙ fold-Atom Bool (occurs_step v) a))
  in_cell i (cell.Node f count first) lt each o =
      in_places first count (λ k le less. each k (le, less)) (sym (occurs-Node v f (map value (places first count))) ∙ o)

stands_within : (h : List Change) → IsMade h → (limit i v : ℕ) → rank h i < limit → i < size_of h → occurs v (value_of h i) ≡ true → v < size_of h
stands_within h made zero i v less lt o = absurd (omega (arith, less))
stands_within h made (suc limit) i v less lt o =
    in_cell (size_of h) v (value_of h) i (cell_at (cells_of h) i) lt
    (λ k named. stands_within h made limit k v (omega (arith, less, falls h i k made lt named)) (named_below (size_of h) k (cell_at (cells_of h) i) named (names_in h i made lt)))
    (sym (ap (occurs v) (fits h i made lt)) ∙ o)

-- what stands in the term of a place is a cell
pub stands_below : (h : List Change) (i v : ℕ) → IsMade h → i < size_of h → occurs v (value_of h i) ≡ true → v < size_of h
stands_below h i v made lt o = stands_within h made (suc (rank h i)) i v (omega arith) lt o
