use Rattle.std.proofs.Common.{◌≡◌, ◌-◌, length, map, ◌++◌}
use Rattle.name_order.specs.Relations.{names_from}
use Rattle.name_order.specs.Tables.{users, all_users}
use Rattle.name_order.proofs.users.all_users.Given as goal

abbrev pub invariant-loop-used : goal.invariant-loop-used
invariant-loop-used l = l.all ++ map (users l.lists) (names_from l.used (length l.lists - l.used)) ≡ all_users l.lists
