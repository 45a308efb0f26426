use Rattle.std.proofs.Common.{◌≡◌, ◌≤◌, length, map, drop}
use Rattle.prog_data.specs.Values.{seen}
use Rattle.name_order.specs.Relations.{order}
use Rattle.type_domain.specs.Values.{leaf_part, join_all}
use Rattle.type_domain.proofs.compounds.joined_parts.Given as goal

abbrev pub invariant-loop-left : goal.invariant-loop-left
invariant-loop-left l = (l.left ≤ length l.leaves) × (seen l.joined ≡ join_all (map (leaf_part (order l.rel) l.place.name l.place.arity l.place.part) (drop l.left l.leaves)))

abbrev pub decreases-loop-left : goal.decreases-loop-left
decreases-loop-left l = l.left
