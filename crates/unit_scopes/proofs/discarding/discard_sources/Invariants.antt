use Rattle.std.proofs.Common.{length}
use Rattle.std.specs.Prelude.{⊤}
use Rattle.unit_scopes.proofs.discarding.discard_sources.Given as goal

abbrev pub invariant-loop-source : goal.invariant-loop-source
invariant-loop-source l = ⊤

abbrev pub decreases-loop-source : goal.decreases-loop-source
decreases-loop-source l = length l.left
