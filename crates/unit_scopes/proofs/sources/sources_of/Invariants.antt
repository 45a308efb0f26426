use Rattle.std.proofs.Common.{drop, map}
use Rattle.unit_scopes.specs.Sayings.{file_of}
use Rattle.unit_scopes.proofs.SourceLaws.{Held}
use Rattle.unit_scopes.proofs.sources.sources_of.Given as goal

abbrev pub invariant-loop-at : goal.invariant-loop-at
invariant-loop-at l = Held l.at l.first (map file_of (drop l.at l.units)) (map file_of l.units) l.sources
