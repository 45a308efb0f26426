use Rattle.std.proofs.Common.{◌≡◌, ◌+◌, ◌*◌, take}
use Rattle.term_core.specs.Sizes.{size, size_all}
use Rattle.term_heap.specs.PastStays.{GoesOn}
use Rattle.unify_core.proofs.HeadLaws.{HasGone}
use Rattle.unify_core.proofs.matching.+matching.Given as goal

abbrev pub invariant-match_row-loop-term : goal.invariant-match_row-loop-term
invariant-match_row-loop-term l = record {
  gone : HasGone l.fn.heap l.heap l.base l.first (take l.term-index l.terms) l.fn.next l.next;
  goes_on : GoesOn l.fn.heap l.heap;
  place : l.at ≡ l.first + l.term-index;
}

abbrev pub decreases-match_term : goal.decreases-match_term
decreases-match_term l = 2 * size l.term.now

abbrev pub decreases-match_row : goal.decreases-match_row
decreases-match_row l = 2 * size_all l.terms.now + 1
