use Rattle.std.proofs.Common.{◌≡◌, ◌∷◌, [], reverse}
use Rattle.std.specs.List.{AllByRecursion}
use Rattle.term_heap.specs.Changes.{size_of, value_of}
use Rattle.term_heap.specs.Decodes.{built, weights, IsOpenable}
use Rattle.term_heap.proofs.decoding.build.Given as goal

abbrev pub invariant-loop-step : goal.invariant-loop-step
invariant-loop-step l = record {
  within : AllByRecursion (IsOpenable (size_of l.fn.heap.changes)) l.left.items;
  same : built (value_of l.fn.heap.changes) (reverse l.left.items) (reverse l.done) ≡ value_of l.fn.heap.changes l.fn.at ∷ [];
}

abbrev pub decreases-loop-step : goal.decreases-loop-step
decreases-loop-step l = weights (value_of l.fn.heap.changes) l.left.items
