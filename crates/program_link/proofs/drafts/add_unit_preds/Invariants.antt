use Rattle.std.proofs.Common.{◌≡◌, ◌++◌, drop, map}
use Rattle.program_link.specs.HeldPrograms.{pred_at}
use Rattle.program_link.proofs.drafts.add_unit_preds.Given as goal

abbrev pub invariant-loop-indicator : goal.invariant-loop-indicator
invariant-loop-indicator l = l.preds ++ map (pred_at l.at) (drop l.indicator-index l.defined) ≡ l.fn.preds ++ map (pred_at l.at) l.defined
