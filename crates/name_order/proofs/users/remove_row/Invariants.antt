use Rattle.std.proofs.Common.{◌≡◌, ◌&&◌, ◌==◌, not, drop}
use Rattle.name_order.specs.Relations.{Pair}
use Rattle.name_order.specs.Tables.{has, listed}
use Rattle.name_order.proofs.users.remove_row.Given as goal

abbrev pub invariant-loop-second : goal.invariant-loop-second
invariant-loop-second l =
    (l.done.size ≡ l.fn.done.size)
    × ((p : Pair) → (not ((p.0 == l.first) && listed (drop l.second-index l.seconds) p.1) && has l.done p) ≡ (not ((p.0 == l.first) && listed l.seconds p.1) && has l.fn.done p))
