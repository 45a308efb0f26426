use Rattle.std.proofs.Common.{◌≡◌, ◌++◌, drop}
use Rattle.program_link.specs.HeldPrograms.{unit_preds_from}
use Rattle.program_link.proofs.drafts.unit_preds.Given as goal

abbrev pub invariant-loop-at : goal.invariant-loop-at
invariant-loop-at l = l.preds ++ unit_preds_from l.at (drop l.at l.sources) ≡ unit_preds_from 0 l.sources
