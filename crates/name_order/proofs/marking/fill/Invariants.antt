use Rattle.std.proofs.Common.{◌≡◌, length}
use Rattle.name_order.specs.Tables.{unmarked, Grown, DoneAreMarked, marking}
use Rattle.name_order.proofs.marking.fill.Given as goal

abbrev pub invariant-loop-kind : goal.invariant-loop-kind
invariant-loop-kind l = Grown (marking l.kind l.lists) l.fn.marked l.marked × (l.done.size ≡ length l.lists) × DoneAreMarked (marking l.kind l.lists) l.marked l.done

abbrev pub decreases-loop-kind : goal.decreases-loop-kind
decreases-loop-kind l = unmarked l.marked
