use Rattle.std.proofs.Common.{◌∷◌, map, subst}
use Rattle.prog_data.specs.declared.events.Event.TheVariants.{Broken}
use Rattle.engine_state.specs.declared.tasks.Task.TheVariants as task
use Rattle.engine_state.specs.Views.{as_task}
use Rattle.engine_state.specs.Stages.{tasks_at, doing}
use Rattle.engine_moves.specs.Turned.{HasTurned}
use Rattle.engine_moves.proofs.LinkLaws.{state_is, moved_from}
use Rattle.engine_moves.proofs.links.do_link.Goals as goal

pub returns-in-Cuts : goal.returns-in-Cuts
returns-in-Cuts c =
    let e = c.args.engine.now in
    let l = c.in-Some.link in
    let t = task.Cuts c.in-Cuts.height in
    moved_from c.args.reading e c.do_cuts-stage.new.self c.args.number (doing e (as_task e.notes.items t ∷ tasks_at e l.next)) c.do_cuts-stage.result c.args.told.now.items (state_is e c.args.number l t c.in-Cuts.is c.in-Some.ensures) c.requires.none c.do_cuts-stage.ensures

pub returns-in-Fails : goal.returns-in-Fails
returns-in-Fails c =
    let e = c.args.engine.now in
    let l = c.in-Some.link in
    let t = task.Fails c.in-Fails.height c.in-Fails.place in
    moved_from c.args.reading e e c.args.number (doing e (as_task e.notes.items t ∷ tasks_at e l.next)) c.do_fail-stage.result c.args.told.now.items (state_is e c.args.number l t c.in-Fails.is c.in-Some.ensures) c.requires.none c.do_fail-stage.ensures

pub returns-in_ok-turn-in-Leaves : goal.returns-in_ok-turn-in-Leaves
returns-in_ok-turn-in-Leaves c = λ bound.
    let e = c.args.engine.now in
    let l = c.in-Some.link in
    let turn = c.in_ok-turn-in-Leaves.turn in
    subst (λ s. HasTurned c.args.reading bound e s (map Broken c.do_exit.new.told.items) turn.tests c.do_exit.new.engine turn.stage) (state_is e c.args.number l (task.Leaves c.in-Leaves.exit) c.in-Leaves.is c.in-Some.ensures)
    (c.in_ok-turn-in-Leaves.ensures bound)
