use Rattle.engine_moves.proofs.FailureLaws.{is_back, none_left, gone_on}
use Rattle.engine_moves.proofs.failing.do_failed.Goals as goal

pub take_up-requires-clause-back : goal.take_up-requires-clause-back
take_up-requires-clause-back c = is_back c.args.engine.now c.go_back.new.self c.in-Some.alternative c.in-Some.ensures.back

pub returns-in-None : goal.returns-in-None
returns-in-None c = λ bound.
    none_left c.relied_law.ensures c.args.reading bound c.args.engine.now c.go_back.new.self c.args.told.now.items c.in-None.ensures.program c.in-None.ensures.back c.requires.none

pub returns-in_ok-turn-in-Some : goal.returns-in_ok-turn-in-Some
returns-in_ok-turn-in-Some c = λ bound.
    gone_on c.relied_law.ensures c.args.reading bound c.args.engine.now c.go_back.new.self c.take_up.new.engine c.in-Some.alternative _ c.in_ok-turn-in-Some.turn.tests c.in_ok-turn-in-Some.turn.stage c.requires.whole c.in-Some.ensures.back (c.in_ok-turn-in-Some.ensures bound)
