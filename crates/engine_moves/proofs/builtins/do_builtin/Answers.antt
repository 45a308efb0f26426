use Rattle.engine_state.specs.Stages.{goal_state}
use Rattle.engine_moves.specs.Texts.{events_of}
use Rattle.prog_data.specs.declared.goals.Goal as goals
use Rattle.engine_moves.proofs.BuiltinTurns.{turned}
use Rattle.engine_moves.proofs.builtins.do_builtin.Goals as goal

pub returns : goal.returns
returns c =
    let old = c.args.engine.now in
    let from = goal_state old (goals.Builtin c.args.builtin c.args.args.now) c.args.setting in
    let mid = c.load_builtin.new.self in
    let turn = c.in_ok-turn.turn in
    turned old c.do_ready.new.engine from (events_of turn.text) turn.stage
    (c.builtin_moves_law.ensures.loaded old from c.args.builtin c.in_ok-row.row c.args.setting mid c.do_ready.new.engine (events_of turn.text) turn.stage c.in_ok-row.ensures c.in_ok-turn.ensures)
