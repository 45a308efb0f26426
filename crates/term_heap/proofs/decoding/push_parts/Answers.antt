use Rattle.std.proofs.Common.{◌+◌, ◌∙◌, arith}
use Rattle.term_heap.proofs.DecodeLaws.{opens_pushed}
use Rattle.term_heap.proofs.decoding.push_parts.Goals as goal

pub loop-at-preserved : goal.loop-at-preserved
loop-at-preserved c = record {
  within = omega (arith, c.loop-at-test.true);
  all = opens_pushed c.loop-at.left.items c.push-in-loop-at.new.self.items c.loop-at.at (c.args.first + c.args.count) c.loop-at-test.true c.in_ok-push-2.ensures.items ∙ c.loop-at.invariant.all;
}
