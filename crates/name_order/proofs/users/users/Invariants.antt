use Rattle.std.proofs.Common.{◌≡◌, ◌-◌, length, ◌++◌}
use Rattle.std.specs.Prelude.{flat_map}
use Rattle.name_order.specs.Relations.{names_from}
use Rattle.name_order.specs.Tables.{user_if, users}
use Rattle.name_order.proofs.users.users.Given as goal

abbrev pub invariant-loop-name : goal.invariant-loop-name
invariant-loop-name l = l.found ++ flat_map (user_if l.lists l.used) (names_from l.name (length l.lists - l.name)) ≡ users l.lists l.used
