use Rattle.std.proofs.Common.{◌<◌}
use Rattle.reader_tests.proofs.printing.Draws.+term.Given as goal

abbrev pub decreases-term : goal.decreases-term
decreases-term l = l.depth

abbrev pub invariant-loop : goal.invariant-loop
invariant-loop l = l.below < l.fn.depth
