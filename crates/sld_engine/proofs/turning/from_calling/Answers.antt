use Rattle.engine_moves.specs.Calling.{call_state}
use Rattle.sld_engine.proofs.TurningLaws.{turned_gone}
use Rattle.sld_engine.proofs.turning.from_calling.Goals as goal

pub returns : goal.returns
returns c =
    let e = c.args.engine.now in
    turned_gone c.args.reading c.args.bound e c.do_call.new.engine (call_state e c.args.pred c.args.args c.args.height c.args.place c.args.rest) c.in_ok-turn.turn.stage c.do_call.new.told.items c.in_ok-turn.turn.tests c.in_ok-turn.ensures
