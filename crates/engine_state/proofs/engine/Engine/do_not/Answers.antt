use Rattle.std.proofs.Common.{refl}
use Rattle.engine_state.proofs.ControlLaws.{not_moved}
use Rattle.engine_state.proofs.engine.Engine.do_not.Goals as goal

pub returns : goal.returns
returns c =
    let e = c.args.self.now in
    not_moved c.leaner_states_law.ensures e c.let_go.new.self c.add_point.new.self c.push.new.self c.run_once.new.self c.args.setting c.in_ok-once.once c.in_ok-behind.behind c.in_ok-now.now _ c.args.negated.now c.requires c.let_go.ensures c.in_ok-add_point.ensures
    c.in_ok-behind.ensures c.in_ok-once.ensures c.in_ok-now.ensures refl (λ due. due)
