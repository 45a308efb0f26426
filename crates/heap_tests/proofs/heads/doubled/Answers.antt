use Rattle.std.proofs.Common.{sym, subst, arith}
use Rattle.std.specs.List.{AllByRecursion}
use Rattle.term_heap.specs.Changes.{size_of}
use Rattle.term_heap.specs.Loads.{IsPlaced}
use Rattle.heap_tests.proofs.Premises.{shifted}
use Rattle.heap_tests.proofs.heads.doubled.Goals as goal

pub load_all-requires : goal.load_all-requires
load_all-requires c =
    let size = size_of c.args.heap.now.changes in
    subst (AllByRecursion (IsPlaced size c.args.place)) (sym c.as_slice.ensures) (shifted size c.args.place c.in_ok-call.call (omega (arith, c.if-size-lt3.false, c.if-place-size.false, c.len-size.ensures.len)) c.in_ok-call.ensures.placed)
