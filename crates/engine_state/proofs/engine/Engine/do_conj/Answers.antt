use Rattle.std.proofs.Common.{refl}
use Rattle.term_heap.specs.Changes.{size_of}
use Rattle.engine_state.proofs.QuietMoves.{placed_conj}
use Rattle.engine_state.proofs.ControlLaws.{conj_moved}
use Rattle.engine_state.proofs.engine.Engine.do_conj.Goals as goal

pub put_off-requires-clause-placed : goal.put_off-requires-clause-placed
put_off-requires-clause-placed c =
    let e = c.args.self.now in
    (placed_conj e.program.now (size_of e.heap.changes) c.args.setting.base c.args.first.now c.args.second.now c.requires.in_hand.0).1

pub returns : goal.returns
returns c =
    conj_moved c.leaner_states_law.ensures c.args.self.now c.put_off.new.self c.args.setting c.args.first.now c.args.second.now c.in_ok-behind.behind _ c.requires c.in_ok-behind.ensures refl (λ due. due)
