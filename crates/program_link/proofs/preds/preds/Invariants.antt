use Rattle.std.proofs.Common.{◌≡◌, [], drop}
use Rattle.program_link.proofs.MadeLaws.{preds_left}
use Rattle.program_link.proofs.preds.preds.Given as goal

abbrev pub invariant-loop-number : goal.invariant-loop-number
invariant-loop-number l = preds_left l.sources l.settings l.normals l.grammar l.made (drop l.number l.preds) l.number ≡ preds_left l.sources l.settings l.normals l.fn.grammar [] l.preds 0
