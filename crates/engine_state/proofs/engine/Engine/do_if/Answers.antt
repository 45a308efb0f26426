use Rattle.std.proofs.Common.{refl}
use Rattle.term_heap.specs.Changes.{size_of}
use Rattle.engine_state.specs.Stages.{choices_at}
use Rattle.engine_state.proofs.QuietMoves.{placed_if}
use Rattle.engine_state.proofs.ControlLaws.{placed_after, with_other, if_moved}
use Rattle.engine_state.proofs.engine.Engine.do_if.Goals as goal

pub put_off-requires-clause-placed : goal.put_off-requires-clause-placed
put_off-requires-clause-placed c =
    let e = c.args.self.now in
    placed_after e c.let_go.new.self c.args.setting.rest (choices_at e) c.args.second.now c.args.setting.base c.let_go.ensures
    (placed_if e.program.now (size_of e.heap.changes) c.args.setting.base c.args.condition.now c.args.first.now c.args.second.now c.requires.in_hand.0).2

pub put_off-requires-2-clause-placed : goal.put_off-requires-2-clause-placed
put_off-requires-2-clause-placed c =
    let e = c.args.self.now in
    let goes = with_other c.leaner_states_law.ensures e c.add_point.new.self c.args.setting c.let_go.new.self c.put_off.new.self c.args.second.now c.in_ok-other.other c.let_go.ensures c.in_ok-other.ensures c.in_ok-add_point.ensures in
    placed_after e c.add_point.new.self c.args.setting.rest _ c.args.first.now c.args.setting.base goes
    (placed_if e.program.now (size_of e.heap.changes) c.args.setting.base c.args.condition.now c.args.first.now c.args.second.now c.requires.in_hand.0).1

pub returns : goal.returns
returns c =
    let e = c.args.self.now in
    let goes = with_other c.leaner_states_law.ensures e c.add_point.new.self c.args.setting c.let_go.new.self c.put_off.new.self c.args.second.now c.in_ok-other.other c.let_go.ensures c.in_ok-other.ensures c.in_ok-add_point.ensures in
    if_moved c.leaner_states_law.ensures e c.let_go.new.self c.add_point.new.self c.put_off-2.new.self c.run_once.new.self c.args.setting c.in_ok-once.once c.in_ok-behind.behind c.in_ok-now.now _ c.args.condition.now c.args.first.now c.args.second.now c.requires goes
    c.in_ok-behind.ensures c.in_ok-once.ensures c.in_ok-now.ensures refl (λ due. due)
