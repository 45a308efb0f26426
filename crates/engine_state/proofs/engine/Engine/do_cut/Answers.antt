use Rattle.std.proofs.Common.{length}
use Rattle.engine_state.proofs.ControlLaws.{cut_moved}
use Rattle.engine_state.proofs.engine.Engine.do_cut.Goals as goal

pub returns : goal.returns
returns c = let e = c.args.self.now in cut_moved c.leaner_states_law.ensures e c.cut_to.new.self c.args.setting (length e.links.items) c.requires c.requires.in_hand.1 c.cut_to.ensures
