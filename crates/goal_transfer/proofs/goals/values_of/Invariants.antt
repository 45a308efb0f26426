use Rattle.std.proofs.Common.{◌≡◌, ◌++◌, drop, map}
use Rattle.prog_data.specs.Values.{seen}
use Rattle.name_order.specs.Relations.{order}
use Rattle.goal_transfer.specs.Transfer.{term_value}
use Rattle.goal_transfer.specs.States.{values_seen}
use Rattle.goal_transfer.proofs.goals.values_of.Given as goal

abbrev pub invariant-loop-term : goal.invariant-loop-term
invariant-loop-term l = map seen l.made ++ map (term_value (order l.rel) (values_seen (order l.rel) l.values)) (drop l.term-index l.terms) ≡ map (term_value (order l.rel) (values_seen (order l.rel) l.values)) l.terms
