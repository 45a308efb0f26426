use Rattle.std.proofs.Common.{◌≡◌, drop, map}
use Rattle.assertion_normal.specs.Troubles.{troubled, least_from, least_trouble}
use Rattle.assertion_normal.proofs.troubles.least_trouble.Given as goal

abbrev pub invariant-loop-assertion : goal.invariant-loop-assertion
invariant-loop-assertion l = least_from l.least (map (troubled l.names l.visible) (drop l.assertion-index l.list)) ≡ least_trouble l.names l.visible l.list
