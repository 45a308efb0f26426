use Rattle.std.proofs.Common.{◌≡◌, drop}
use Rattle.std.specs.List.{list_any}
use Rattle.name_order.specs.Tables.{speaks_of}
use Rattle.name_order.proofs.users.some_speaks_of.Given as goal

abbrev pub invariant-loop-rule : goal.invariant-loop-rule
invariant-loop-rule l = list_any (speaks_of l.name) (drop l.rule-index l.rules) ≡ list_any (speaks_of l.name) l.rules
