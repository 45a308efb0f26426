use Rattle.std.proofs.Common.{refl}
use Rattle.term_heap.specs.Changes.{size_of}
use Rattle.engine_state.specs.Stages.{choices_at}
use Rattle.engine_state.proofs.QuietMoves.{placed_disj}
use Rattle.engine_state.proofs.ControlLaws.{placed_after, with_other, disj_moved}
use Rattle.engine_state.proofs.engine.Engine.do_disj.Goals as goal

pub put_off-requires-clause-placed : goal.put_off-requires-clause-placed
put_off-requires-clause-placed c =
    let e = c.args.self.now in
    placed_after e c.let_go.new.self c.args.setting.rest (choices_at e) c.args.second.now c.args.setting.base c.let_go.ensures
    (placed_disj e.program.now (size_of e.heap.changes) c.args.setting.base c.args.first.now c.args.second.now c.requires.in_hand.0).1

pub returns : goal.returns
returns c =
    let e = c.args.self.now in
    let goes = with_other c.leaner_states_law.ensures e c.add_point.new.self c.args.setting c.let_go.new.self c.put_off.new.self c.args.second.now c.in_ok-other.other c.let_go.ensures c.in_ok-other.ensures c.in_ok-add_point.ensures in
    disj_moved c.leaner_states_law.ensures e c.add_point.new.self c.args.setting c.args.first.now c.args.second.now _ c.requires goes refl (λ due. due)
