use Rattle.std.proofs.Common.{◌≡◌, drop, map}
use Rattle.assertion_normal.specs.Troubles.{property_trouble, worst_from}
use Rattle.assertion_normal.proofs.troubles.worst_of.Given as goal

abbrev pub invariant-loop-written : goal.invariant-loop-written
invariant-loop-written l = worst_from l.worst (map (property_trouble l.visible) (drop l.written-index l.list)) ≡ worst_from l.fn.found (map (property_trouble l.visible) l.list)
