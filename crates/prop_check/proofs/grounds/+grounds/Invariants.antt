use Rattle.std.proofs.Common.{◌≡◌, ◌≤◌, ◌<◌, ◌+◌, ◌-◌, ◌*◌}
use Rattle.term_core.specs.Terms.{is_ground}
use Rattle.term_core.specs.Sizes.{size}
use Rattle.term_heap.specs.Changes.{size_of, value_of}
use Rattle.prop_check.proofs.GroundLaws.{sizes, all_ground}
use Rattle.prop_check.proofs.grounds.+grounds.Given as goal

abbrev pub decreases-are_ground_at : goal.decreases-are_ground_at
decreases-are_ground_at l = 2 * sizes (value_of l.heap.now.changes) l.first l.count + 2

abbrev pub decreases-is_ground_at : goal.decreases-is_ground_at
decreases-is_ground_at l = 2 * size (value_of l.heap.now.changes l.place) + 1

abbrev pub invariant-are_ground_at-loop-at : goal.invariant-are_ground_at-loop-at
invariant-are_ground_at-loop-at l = all_ground (value_of l.heap.changes) l.at (l.end - l.at) ≡ all_ground (value_of l.heap.changes) l.fn.first l.fn.count

abbrev pub invariant-is_ground_at-places : goal.invariant-is_ground_at-places
invariant-is_ground_at-places l = record {
  there : l.here < size_of l.heap.changes;
  same : is_ground (value_of l.heap.changes l.here) ≡ is_ground (value_of l.heap.changes l.fn.place);
  small : size (value_of l.heap.changes l.here) ≤ size (value_of l.heap.changes l.fn.place);
}

abbrev pub decreases-is_ground_at-places : goal.decreases-is_ground_at-places
decreases-is_ground_at-places l = size (value_of l.heap.changes l.here)
