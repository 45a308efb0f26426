use Rattle.std.proofs.Common.{length, ◌&&◌, nat_lt}
use Rattle.name_order.specs.Tables.{Looked, marking}
use Rattle.name_order.proofs.TableLaws.{looked_at}
use Rattle.name_order.proofs.marking.look_all.Given as goal

abbrev pub invariant-loop-step : goal.invariant-loop-step
invariant-loop-step l = Looked (marking l.kind l.lists) (λ p. looked_at l.forward (length l.lists) l.step p.0 && nat_lt p.1 (length l.lists)) l.fn.marked l.fn.done l.marked l.done l.any
