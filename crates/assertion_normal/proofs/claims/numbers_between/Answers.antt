use Rattle.assertion_normal.proofs.TurnLaws.{numbers_turn}
use Rattle.assertion_normal.proofs.claims.numbers_between.Goals as goal

pub loop-number-preserved : goal.loop-number-preserved
loop-number-preserved c = numbers_turn c.loop-number.numbers c.push.new.self c.loop-number.number c.args.to _ c.loop-number-test.true c.in_ok-push.ensures.ok c.loop-number.invariant
