use Rattle.std.proofs.Common.{◌&&◌, ◌==◌, nat_lt}
use Rattle.name_order.specs.Tables.{Looked, marking}
use Rattle.name_order.proofs.marking.look_row.Given as goal

abbrev pub invariant-loop-second : goal.invariant-loop-second
invariant-loop-second l = Looked (marking l.kind l.lists) (λ p. (p.0 == l.first) && nat_lt p.1 l.second) l.fn.marked l.fn.done l.marked l.done l.any
