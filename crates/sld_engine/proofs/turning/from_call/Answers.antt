use Rattle.prog_data.specs.declared.goals.Goal as goals
use Rattle.sld_engine.proofs.TurningLaws.{called_gone}
use Rattle.sld_engine.proofs.turning.from_call.Goals as goal

pub do_call-requires-clause-whole : goal.do_call-requires-clause-whole
do_call-requires-clause-whole c = c.in_ok-row.ensures.whole

pub returns : goal.returns
returns c =
    called_gone c.relied_law.ensures c.args.reading c.args.bound c.args.engine.now c.load_call.new.self c.do_call.new.engine (goals.Call c.args.pred c.args.args.now) c.args.pred c.in_ok-row.row c.args.setting c.do_call.new.told.items c.in_ok-turn.turn.tests
    c.in_ok-turn.turn.stage c.requires.due c.in_ok-row.ensures c.in_ok-turn.ensures
