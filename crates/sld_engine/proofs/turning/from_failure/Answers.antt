use Rattle.machine_model.specs.State.{Failed}
use Rattle.engine_state.specs.Engines.{as_state}
use Rattle.engine_state.specs.Stages.{as_engine}
use Rattle.sld_engine.proofs.TurningLaws.{turned_gone}
use Rattle.sld_engine.proofs.turning.from_failure.Goals as goal

pub returns : goal.returns
returns c =
    let e = c.args.engine.now in
    turned_gone c.args.reading c.args.bound e c.do_failed.new.engine (as_state (as_engine e) Failed) c.in_ok-turn.turn.stage c.do_failed.new.told.items c.in_ok-turn.turn.tests (c.in_ok-turn.ensures c.args.bound)
