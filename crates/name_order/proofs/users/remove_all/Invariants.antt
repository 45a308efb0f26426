use Rattle.std.proofs.Common.{◌≡◌, ◌&&◌, not, drop}
use Rattle.name_order.specs.Relations.{Pair}
use Rattle.name_order.specs.Tables.{has, listed}
use Rattle.name_order.proofs.users.remove_all.Given as goal

abbrev pub invariant-loop-first : goal.invariant-loop-first
invariant-loop-first l =
    (l.done.size ≡ l.fn.done.size)
    × ((p : Pair) → (not (listed (drop l.first-index l.firsts) p.0 && listed l.seconds p.1) && has l.done p) ≡ (not (listed l.firsts p.0 && listed l.seconds p.1) && has l.fn.done p))
