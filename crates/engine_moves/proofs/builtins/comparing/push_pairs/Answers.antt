use Rattle.std.proofs.Common.{◌-◌, ◌∙◌, arith}
use Rattle.engine_moves.proofs.SameLaws.{pairs_pushed}
use Rattle.engine_moves.proofs.builtins.comparing.push_pairs.Goals as goal

pub loop-count-preserved : goal.loop-count-preserved
loop-count-preserved c = record {
  within = omega (arith, c.loop-count.invariant.within);
  all = pairs_pushed c.loop-count.work.items c.push.new.self.items c.args.left c.args.right c.loop-count.count (c.loop-count.count - 1) (omega (arith, c.loop-count-test.true)) c.in_ok-push.ensures.items ∙ c.loop-count.invariant.all;
}
