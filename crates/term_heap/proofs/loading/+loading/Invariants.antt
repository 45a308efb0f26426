use Rattle.std.proofs.Common.{◌+◌, ◌*◌, take}
use Rattle.term_core.specs.Sizes.{size, size_all}
use Rattle.term_heap.specs.Loads.{AreLoaded}
use Rattle.term_heap.proofs.loading.+loading.Given as goal

abbrev pub invariant-row_of-loop-term : goal.invariant-row_of-loop-term
invariant-row_of-loop-term l = AreLoaded l.fn.cells.items l.base (take l.term-index l.terms) l.cells.items l.row.items

abbrev pub decreases-cell_of : goal.decreases-cell_of
decreases-cell_of l = 3 * size l.term.now

abbrev pub decreases-row_of : goal.decreases-row_of
decreases-row_of l = 3 * size_all l.terms.now + 1

abbrev pub decreases-block_of : goal.decreases-block_of
decreases-block_of l = 3 * size_all l.terms.now + 2
