use Rattle.std.proofs.Common.{length}
use Rattle.std.specs.Prelude.{⊤}
use Rattle.unit_scopes.proofs.discarding.discard_types.Given as goal

abbrev pub invariant-loop-one : goal.invariant-loop-one
invariant-loop-one l = ⊤

abbrev pub decreases-loop-one : goal.decreases-loop-one
decreases-loop-one l = length l.types
