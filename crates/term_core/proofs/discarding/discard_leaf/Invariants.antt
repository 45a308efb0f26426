use Rattle.std.proofs.Common.{◌+◌, ◌≤◌}
use Rattle.term_core.specs.Sizes.{size, size_all}
use Rattle.term_core.proofs.discarding.discard_leaf.Given as goal

abbrev pub invariant-loop-first : goal.invariant-loop-first
invariant-loop-first l = size l.here + size_all l.left ≤ size l.fn.term + size_all l.fn.left

abbrev pub decreases-loop-first : goal.decreases-loop-first
decreases-loop-first l = size l.here
