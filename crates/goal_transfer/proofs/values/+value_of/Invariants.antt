use Rattle.std.proofs.Common.{◌≡◌, ◌++◌, drop, map}
use Rattle.prog_data.specs.Values.{seen}
use Rattle.name_order.specs.Relations.{order}
use Rattle.goal_transfer.specs.Transfer.{term_value}
use Rattle.goal_transfer.specs.States.{values_seen}
use Rattle.goal_transfer.proofs.values.+value_of.Given as goal

abbrev pub invariant-loop-part : goal.invariant-loop-part
invariant-loop-part l = map seen l.made ++ map (term_value (order l.rel) (values_seen (order l.rel) l.values)) (drop l.part-index l.part-items) ≡ map (term_value (order l.rel) (values_seen (order l.rel) l.values)) l.part-items
