use Rattle.std.proofs.Common.{◌≡◌, drop, map}
use Rattle.assertion_normal.specs.Troubles.{comp_trouble, worst_from}
use Rattle.assertion_normal.proofs.troubles.worst_of_comp.Given as goal

abbrev pub invariant-loop-name : goal.invariant-loop-name
invariant-loop-name l = worst_from l.worst (map (comp_trouble l.names) (drop l.name-index l.list)) ≡ worst_from l.fn.found (map (comp_trouble l.names) l.list)
