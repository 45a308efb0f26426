use Rattle.std.proofs.Common.{◌≡◌, ◌++◌, drop}
use Rattle.unit_scopes.specs.Sources.{types_given}
use Rattle.unit_scopes.proofs.visible.types_seen.Given as goal

abbrev pub invariant-loop-at : goal.invariant-loop-at
invariant-loop-at l = l.types ++ types_given l.source l.at (drop l.at l.sources) ≡ l.source.types ++ types_given l.source 0 l.sources
