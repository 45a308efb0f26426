use Rattle.std.proofs.Common.{◌≡◌, ◌++◌, drop}
use Rattle.program_link.specs.HeldPrograms.{exports_held}
use Rattle.program_link.proofs.entries.exports.Given as goal

abbrev pub invariant-loop-number : goal.invariant-loop-number
invariant-loop-number l = l.exports ++ exports_held l.sources l.number (drop l.number l.preds) ≡ exports_held l.sources 0 l.preds
