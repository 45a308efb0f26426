use Rattle.std.proofs.Common.{◌≡◌, drop}
use Rattle.std.specs.List.{list_any}
use Rattle.name_order.specs.Tables.{has, unit_leads}
use Rattle.name_order.proofs.leaves.some_unit_leads.Given as goal

abbrev pub invariant-loop-rule : goal.invariant-loop-rule
invariant-loop-rule l = list_any (unit_leads (has l.leads) l.name) (drop l.rule-index l.rules) ≡ list_any (unit_leads (has l.leads) l.name) l.rules
