use Rattle.engine_state.proofs.ControlLaws.{true_moved}
use Rattle.engine_state.proofs.engine.Engine.do_true.Goals as goal

pub returns : goal.returns
returns c = true_moved c.leaner_states_law.ensures c.args.self.now c.args.self.now c.args.setting c.requires
