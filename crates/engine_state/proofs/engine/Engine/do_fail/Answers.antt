use Rattle.engine_state.proofs.ControlLaws.{fail_moved}
use Rattle.engine_state.proofs.engine.Engine.do_fail.Goals as goal

pub returns : goal.returns
returns c = fail_moved c.leaner_states_law.ensures c.args.self.now c.args.self.now c.args.setting c.requires
