use Rattle.std.proofs.Common.{◌<◌, ◌≤◌, ◌+◌, ◌*◌, ◌&&◌, take}
use Rattle.term_core.specs.Sizes.{size, size_all}
use Rattle.prog_data.specs.Values.{bit_at}
use Rattle.prog_data.specs.Membership.{belongs}
use Rattle.term_heap.specs.Changes.{size_of, value_of}
use Rattle.prop_check.specs.OneOf.{SomeBelongs}
use Rattle.prop_check.specs.Places.{row_at}
use Rattle.prop_check.proofs.SetLaws.{Gathered}
use Rattle.prop_check.proofs.narrowing_at.+narrowing_at.Given as goal

abbrev pub decreases-narrowed_at : goal.decreases-narrowed_at
decreases-narrowed_at l = 4 * size_all (take l.left (row_at l.heap.now.changes l.first l.count)) + 4

abbrev pub decreases-ask_last : goal.decreases-ask_last
decreases-ask_last l = 4 * size_all (take l.left (row_at l.heap.now.changes l.first l.count)) + 4

abbrev pub decreases-one_belongs : goal.decreases-one_belongs
decreases-one_belongs l = 4 * size (value_of l.heap.now.changes l.place)

abbrev pub decreases-narrow_one : goal.decreases-narrow_one
decreases-narrow_one l = 4 * size (value_of l.heap.now.changes l.place) + 1

abbrev pub decreases-is_kept : goal.decreases-is_kept
decreases-is_kept l = 4 * size (value_of l.heap.now.changes l.place) + 1

abbrev pub decreases-narrow_each : goal.decreases-narrow_each
decreases-narrow_each l = 4 * size (value_of l.heap.now.changes l.place) + 2

abbrev pub invariant-narrow_each-loop-name : goal.invariant-narrow_each-loop-name
invariant-narrow_each-loop-name l = Gathered (λ n. bit_at l.names n && belongs l.grammar (value_of l.heap.changes l.place) n) l.name l.kept

abbrev pub decreases-narrow_all : goal.decreases-narrow_all
decreases-narrow_all l = 4 * size (value_of l.heap.now.changes l.place) + 2

abbrev pub decreases-narrow_at : goal.decreases-narrow_at
decreases-narrow_at l = 4 * size (value_of l.heap.now.changes l.place) + 3

abbrev pub invariant-one_belongs-places : goal.invariant-one_belongs-places
invariant-one_belongs-places l = record {
  there : l.here < size_of l.heap.changes;
  down : SomeBelongs l.grammar (bit_at l.fn.names) (value_of l.heap.changes l.fn.place) → SomeBelongs l.grammar (bit_at l.asked) (value_of l.heap.changes l.here);
  up : SomeBelongs l.grammar (bit_at l.asked) (value_of l.heap.changes l.here) → SomeBelongs l.grammar (bit_at l.fn.names) (value_of l.heap.changes l.fn.place);
  small : size (value_of l.heap.changes l.here) ≤ size (value_of l.heap.changes l.fn.place);
}

abbrev pub decreases-one_belongs-places : goal.decreases-one_belongs-places
decreases-one_belongs-places l = size (value_of l.heap.changes l.here)
