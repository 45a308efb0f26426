-- What is left to do where a term is built from cells.
-- The headline does not rest on this file.
use Rattle.std.specs.Prelude.{◌≡◌, ◌<◌, ℕ, ◌+◌, List, [], ◌∷◌, take, drop, reverse, ⊤}
use Rattle.std.specs.List.{AllByRecursion}
use Rattle.term_core.specs.declared.terms.Term.{Term, Node}
use Rattle.term_core.specs.Sizes.{size}
use Rattle.term_heap.specs.declared.decoding.Step.{Step}
use Rattle.term_heap.specs.declared.decoding.Step.TheVariants.{Open, Close}
use Rattle.term_heap.specs.Changes.{Change, size_of, value_of}

-- the terms that there are after these steps, the next one first, where the newest terms come first
abbrev pub built : (ℕ → Term) → List Step → List Term → List Term
built value [] done = done
built value (Open at ∷ steps) done = built value steps (value at ∷ done)
built value (Close f count ∷ steps) done = built value steps (Node f (take count done) ∷ drop count done)

-- how much is left to do
abbrev pub weights : (ℕ → Term) → List Step → ℕ
weights value [] = 0
weights value (Open at ∷ steps) = size (value at) + size (value at) + weights value steps
weights value (Close f count ∷ steps) = 1 + weights value steps

-- whether the place that a step opens is there
abbrev pub IsOpenable : ℕ → Step → Type 0
IsOpenable size (Open at) = at < size
IsOpenable size (Close f count) = ⊤

-- a step was taken: what is left makes the same terms, is less, and opens places that are there
pub record HasStepped (h : List Change) (step : Step) (left : List Step) (done : List Term) (new_left : List Step) (new_done : List Term) : Type 0 where
  pub same : built (value_of h) (reverse new_left) (reverse new_done) ≡ built (value_of h) (step ∷ reverse left) (reverse done)
  pub lighter : weights (value_of h) new_left < weights (value_of h) (step ∷ left)
  pub within : AllByRecursion (IsOpenable (size_of h)) left → AllByRecursion (IsOpenable (size_of h)) new_left
