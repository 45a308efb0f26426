use Rattle.std.proofs.Common.{map}
use Rattle.std.specs.List.{list_any}
use Rattle.prog_data.specs.Values.{seen}
use Rattle.name_order.specs.Relations.{order}
use Rattle.type_domain.specs.Wanted.{has_wanted}
use Rattle.name_order.proofs.Gathering.{Gathered}
use Rattle.type_domain.proofs.leaves.names_with.Given as goal

abbrev pub invariant-loop-name : goal.invariant-loop-name
invariant-loop-name l = Gathered (λ n. list_any (has_wanted l.wanted (map seen l.parts)) ((order l.rel).leaves n)) l.name l.names
