use Rattle.std.proofs.Common.{arith}
use Rattle.term_heap.specs.Changes.{size_of}
use Rattle.heap_tests.proofs.Premises.{placed_more}
use Rattle.heap_tests.proofs.unification.load_side.Goals as goal

pub load-requires : goal.load-requires
load-requires c = placed_more 3 (size_of c.args.heap.now.changes) 0 c.in_ok-term.term (omega (arith, c.if-len-lt3.false, c.len.ensures.len)) c.in_ok-term.ensures
