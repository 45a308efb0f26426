use Rattle.std.proofs.Common.{arith}
use Rattle.term_heap.specs.Changes.{value_of}
use Rattle.engine_moves.proofs.SameLaws.{left_weight}
use Rattle.engine_moves.proofs.builtins.comparing.same_at.Goals as goal

pub loop-pair-smaller : goal.loop-pair-smaller
loop-pair-smaller c = omega (arith, c.in_ok-met.ensures.lighter, left_weight (value_of c.args.heap.now.changes) c.loop-pair.work.items c.pop.new.self.items c.in-Some.pair c.in-Some.ensures.items)
