use Rattle.std.proofs.Common.{◌≡◌, drop}
use Rattle.name_order.specs.Tables.{listed}
use Rattle.name_order.proofs.users.is_listed.Given as goal

abbrev pub invariant-loop-other : goal.invariant-loop-other
invariant-loop-other l = listed (drop l.other-index l.names) l.name ≡ listed l.names l.name
