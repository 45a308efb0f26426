use Rattle.std.proofs.Common.{◌≡◌, ◌++◌, drop}
use Rattle.program_link.specs.Programs.{conditions}
use Rattle.program_link.proofs.conditions.conditions.Given as goal

abbrev pub invariant-loop-normal : goal.invariant-loop-normal
invariant-loop-normal l = l.conds ++ conditions (drop l.normal-index l.normals) ≡ conditions l.normals
