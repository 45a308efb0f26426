use Rattle.std.proofs.Common.{[], refl, subst}
use Rattle.prog_data.specs.declared.goals.Goal as goals
use Rattle.engine_state.specs.Stages.{goal_state}
use Rattle.engine_moves.specs.Texts.{events_of}
use Rattle.engine_moves.specs.Turned.{HasTurned}
use Rattle.sld_engine.proofs.TurningLaws.{text_gone, turned_out}
use Rattle.sld_engine.proofs.turning.from_builtin.Goals as goal

pub returns-in-None : goal.returns-in-None
returns-in-None c = λ reading bound.
    text_gone reading bound c.args.engine.now c.do_builtin.new.engine _ c.in_ok-turn.turn.stage c.quiet.result c.in_ok-turn.turn.text c.quiet.ensures c.in-None.is (c.in_ok-turn.ensures reading bound)

pub returns-in-Some : goal.returns-in-Some
returns-in-Some c = λ reading bound.
    let e = c.args.engine.now in
    let from = goal_state e (goals.Builtin c.args.builtin c.args.args.now) c.args.setting in
    turned_out reading bound e c.do_builtin.new.engine from c.in_ok-turn.turn.stage [] 0 c.in-Some.text refl (subst (λ o. HasTurned reading bound e from (events_of o) 0 c.do_builtin.new.engine c.in_ok-turn.turn.stage) c.in-Some.is (c.in_ok-turn.ensures reading bound))
