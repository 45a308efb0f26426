use Rattle.std.proofs.Common.{◌≡◌, length}
use Rattle.std.specs.List.{list_all}
use Rattle.prog_data.specs.Values.{bit_at}
use Rattle.name_order.specs.Relations.{order}
use Rattle.type_domain.specs.Values.{is_fit, all_fit}
use Rattle.type_domain.proofs.NameLoops.{names_left}
use Rattle.type_domain.proofs.sets.all_fit.Given as goal

abbrev pub invariant-loop-name : goal.invariant-loop-name
invariant-loop-name l = list_all (is_fit (order l.rel) (bit_at l.names)) (names_left l.name (length l.rel.rules)) ≡ all_fit (order l.rel) (bit_at l.names)
