use Rattle.std.proofs.Common.{length}
use Rattle.std.specs.Prelude.{⊤}
use Rattle.fsyntax_expand.proofs.clauses.discard_all.Given as goal

abbrev pub invariant-loop-term : goal.invariant-loop-term
invariant-loop-term l = ⊤

abbrev pub decreases-loop-term : goal.decreases-loop-term
decreases-loop-term l = length l.left
