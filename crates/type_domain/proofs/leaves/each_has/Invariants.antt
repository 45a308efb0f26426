use Rattle.std.proofs.Common.{◌≡◌, map, drop}
use Rattle.prog_data.specs.Values.{seen}
use Rattle.type_domain.specs.Values.{each_has}
use Rattle.type_domain.proofs.leaves.each_has.Given as goal

abbrev pub invariant-loop-index : goal.invariant-loop-index
invariant-loop-index l = each_has (map seen (drop l.index l.parts)) (drop l.index l.names) ≡ each_has (map seen l.parts) l.names
