use Rattle.std.proofs.Common.{◌≡◌, map, drop}
use Rattle.std.specs.List.{list_any}
use Rattle.prog_data.specs.Values.{seen}
use Rattle.type_domain.specs.Wanted.{has_wanted}
use Rattle.type_domain.proofs.leaves.some_has.Given as goal

abbrev pub invariant-loop-leaf : goal.invariant-loop-leaf
invariant-loop-leaf l = list_any (has_wanted l.wanted (map seen l.parts)) (drop l.leaf-index l.leaves) ≡ list_any (has_wanted l.wanted (map seen l.parts)) l.leaves
