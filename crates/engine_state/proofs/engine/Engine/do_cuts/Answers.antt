use Rattle.std.proofs.Common.{length}
use Rattle.engine_state.proofs.ControlLaws.{cuts_moved}
use Rattle.engine_state.proofs.engine.Engine.do_cuts.Goals as goal

pub returns : goal.returns
returns c = let e = c.args.self.now in cuts_moved c.leaner_states_law.ensures e c.cut_to.new.self c.args.height c.args.rest (length e.links.items) c.requires c.requires.in_hand c.cut_to.ensures
