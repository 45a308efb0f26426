use Rattle.std.proofs.Common.{◌≡◌, ◌++◌, drop}
use Rattle.program_link.specs.HeldPrograms.{claims_held}
use Rattle.program_link.proofs.claims.claims.Given as goal

abbrev pub invariant-loop-source : goal.invariant-loop-source
invariant-loop-source l = l.claims ++ claims_held l.normals l.first (drop l.source-index l.sources) ≡ claims_held l.normals 0 l.sources
