use Rattle.std.proofs.Common.{◌≡◌, ◌&&◌, not, length}
use Rattle.std.specs.List.{list_any}
use Rattle.prog_data.specs.Values.{seen}
use Rattle.name_order.specs.Relations.{order}
use Rattle.type_domain.specs.Values.{has_name}
use Rattle.type_domain.proofs.NameLoops.{names_left}
use Rattle.goal_transfer.specs.Conditions.{is_apart}
use Rattle.goal_transfer.proofs.properties.is_apart.Given as goal

abbrev pub invariant-loop-other : goal.invariant-loop-other
invariant-loop-other l = list_any (λ m. has_name (seen l.value) m && not ((order l.rel).meets m l.name)) (names_left l.other (length l.rel.rules)) ≡ is_apart (order l.rel) (seen l.value) l.name
