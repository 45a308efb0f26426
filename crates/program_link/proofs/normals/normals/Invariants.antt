use Rattle.std.proofs.Common.{◌≡◌, [], drop, length}
use Rattle.program_link.specs.Programs.{conditions}
use Rattle.program_link.proofs.MadeLaws.{normals_left}
use Rattle.program_link.proofs.normals.normals.Given as goal

abbrev pub invariant-loop-pred : goal.invariant-loop-pred
invariant-loop-pred l =
    (l.first ≡ length (conditions l.normals))
    × (normals_left l.names l.settings l.sources l.grammar l.normals (drop l.pred-index l.preds) ≡ normals_left l.names l.settings l.sources l.fn.grammar [] l.preds)
