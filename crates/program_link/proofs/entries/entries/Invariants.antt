use Rattle.std.proofs.Common.{◌≡◌, ◌++◌, drop}
use Rattle.program_link.specs.HeldPrograms.{entries_held}
use Rattle.program_link.proofs.entries.entries.Given as goal

abbrev pub invariant-loop-number : goal.invariant-loop-number
invariant-loop-number l = l.entries ++ entries_held l.sources l.normals l.number (drop l.number l.preds) ≡ entries_held l.sources l.normals 0 l.preds
