use Rattle.std.proofs.Common.{◌≡◌, map, drop}
use Rattle.prog_data.specs.Values.{seen}
use Rattle.name_order.specs.Relations.{order}
use Rattle.goal_transfer.specs.Conditions.{exit_by}
use Rattle.goal_transfer.proofs.narrowing.exit_by.Given as goal

abbrev pub invariant-loop-condition : goal.invariant-loop-condition
invariant-loop-condition l = exit_by l.program (order l.rel) l.arity (map seen l.entry) (drop l.condition-index l.conditions) (map seen l.narrowed) ≡ exit_by l.program (order l.rel) l.arity (map seen l.entry) l.conditions (map seen l.exit)
