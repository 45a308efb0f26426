use Rattle.std.proofs.Common.{◌≡◌, ◌++◌, drop}
use Rattle.unit_scopes.specs.Sources.{preds_given}
use Rattle.unit_scopes.proofs.visible.preds_seen.Given as goal

abbrev pub invariant-loop-at : goal.invariant-loop-at
invariant-loop-at l = l.preds ++ preds_given l.source.index l.at (drop l.at l.sources) ≡ l.source.preds ++ preds_given l.source.index 0 l.sources
