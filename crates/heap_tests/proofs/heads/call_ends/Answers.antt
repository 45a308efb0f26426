use Rattle.std.proofs.Common.{sym, subst, arith}
use Rattle.std.specs.List.{AllByRecursion}
use Rattle.term_heap.specs.Changes.{size_of}
use Rattle.term_heap.specs.Loads.{IsPlaced}
use Rattle.heap_tests.proofs.Premises.{shifted}
use Rattle.heap_tests.proofs.heads.call_ends.Goals as goal

pub load_all-requires : goal.load_all-requires
load_all-requires c =
    let size = size_of c.fresh.new.self.changes in
    subst (AllByRecursion (IsPlaced size 0)) (sym c.as_slice.ensures) (shifted size 0 c.in_ok-call.call (omega (arith, c.if-len-lt3.false, c.len.ensures.len)) c.in_ok-call.ensures.placed)
