use Rattle.std.proofs.Common.{◌≡◌, ◌≤◌, length}
use Rattle.prog_data.specs.Values.{bit_at, seen}
use Rattle.name_order.specs.Relations.{order}
use Rattle.type_domain.specs.Values.{name_part}
use Rattle.type_domain.specs.Meeting.{said_parts}
use Rattle.type_domain.proofs.NameLoops.{names_left}
use Rattle.type_domain.proofs.compounds.said_parts.Given as goal

abbrev pub invariant-loop-left : goal.invariant-loop-left
invariant-loop-left l = (l.left ≤ length l.rel.rules) × (seen l.said ≡ said_parts (order l.rel) (bit_at l.words) (name_part (order l.rel) l.place.name l.place.arity l.place.part) (names_left l.left (length l.rel.rules)))

abbrev pub decreases-loop-left : goal.decreases-loop-left
decreases-loop-left l = l.left
