use Rattle.std.specs.Prelude.{⊤}
use Rattle.term_core.specs.Sizes.{size_all}
use Rattle.term_core.proofs.discarding.discard_all.Given as goal

abbrev pub invariant-loop-first : goal.invariant-loop-first
invariant-loop-first l = ⊤

abbrev pub decreases-loop-first : goal.decreases-loop-first
decreases-loop-first l = size_all l.left
