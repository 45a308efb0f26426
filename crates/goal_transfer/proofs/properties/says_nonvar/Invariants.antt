use Rattle.std.proofs.Common.{◌≡◌, ◌&&◌, not, length}
use Rattle.std.specs.List.{list_any}
use Rattle.prog_data.specs.Values.{seen}
use Rattle.name_order.specs.Relations.{order}
use Rattle.type_domain.specs.Values.{has_name}
use Rattle.type_domain.proofs.NameLoops.{names_left}
use Rattle.goal_transfer.specs.Conditions.{is_term, says_nonvar}
use Rattle.goal_transfer.proofs.properties.says_nonvar.Given as goal

abbrev pub invariant-loop-name : goal.invariant-loop-name
invariant-loop-name l = list_any (λ n. has_name (seen l.value) n && not (list_any is_term ((order l.rel).leaves n))) (names_left l.name (length l.rel.rules)) ≡ says_nonvar (order l.rel) (seen l.value)
