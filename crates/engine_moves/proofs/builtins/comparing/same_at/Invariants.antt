use Rattle.std.proofs.Common.{◌≡◌}
use Rattle.term_core.specs.Terms.{same}
use Rattle.term_heap.specs.Changes.{value_of, size_of}
use Rattle.engine_moves.specs.SamePairs.{are_same, ArePlaces, weight}
use Rattle.engine_moves.proofs.builtins.comparing.same_at.Given as goal

abbrev pub invariant-loop-pair : goal.invariant-loop-pair
invariant-loop-pair l = record {
  places : ArePlaces (size_of l.fn.heap.changes) l.work.items;
  same_are : are_same (value_of l.fn.heap.changes) l.work.items ≡ same (value_of l.fn.heap.changes l.fn.left) (value_of l.fn.heap.changes l.fn.right);
}

abbrev pub decreases-loop-pair : goal.decreases-loop-pair
decreases-loop-pair l = weight (value_of l.fn.heap.changes) l.work.items
