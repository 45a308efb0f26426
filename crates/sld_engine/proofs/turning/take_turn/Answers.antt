use Rattle.std.proofs.Common.{Some, refl, subst}
use Rattle.prog_data.specs.declared.events.Event.TheVariants as event
use Rattle.engine_state.specs.declared.stages.Stage.TheVariants as stage
use Rattle.engine_state.specs.Stages.{IsWhole}
use Rattle.sld_engine.specs.Going.{HasGone}
use Rattle.sld_engine.proofs.TurningLaws.{phase_same, over_gone}
use Rattle.sld_engine.proofs.turning.take_turn.Goals as goal

pub from_link-requires-clause-whole : goal.from_link-requires-clause-whole
from_link-requires-clause-whole c = subst (IsWhole c.args.engine.now) c.in-Doing.is c.requires.whole

pub from_goal-requires-clause-due : goal.from_goal-requires-clause-due
from_goal-requires-clause-due c = subst (IsWhole c.args.engine.now) c.in-Goal.is c.requires.whole

pub from_calling-requires-clause-whole : goal.from_calling-requires-clause-whole
from_calling-requires-clause-whole c = subst (IsWhole c.args.engine.now) c.in-Calling.is c.requires.whole

pub from_failure-requires-clause-whole : goal.from_failure-requires-clause-whole
from_failure-requires-clause-whole c = subst (IsWhole c.args.engine.now) c.in-Failed.is c.requires.whole

pub returns-in_ok-turn-in-Doing : goal.returns-in_ok-turn-in-Doing
returns-in_ok-turn-in-Doing c = λ p phase.
    let e = c.args.engine.now in
    let turn = c.in_ok-turn-in-Doing.turn in
    subst (λ q. HasGone c.args.reading c.args.bound e.program.now q turn.event c.from_link.new.told.items turn.tests c.from_link.new.engine turn.stage) (phase_same e c.args.stage (stage.Doing c.in-Doing.number) _ p c.in-Doing.is refl phase) c.in_ok-turn-in-Doing.ensures

pub returns-in_ok-turn-in-Goal : goal.returns-in_ok-turn-in-Goal
returns-in_ok-turn-in-Goal c = λ p phase.
    let e = c.args.engine.now in
    let turn = c.in_ok-turn-in-Goal.turn in
    subst (λ q. HasGone c.args.reading c.args.bound e.program.now q turn.event c.from_goal.new.told.items turn.tests c.from_goal.new.engine turn.stage) (phase_same e c.args.stage (stage.Goal c.in-Goal.goal c.in-Goal.setting) _ p c.in-Goal.is refl phase) c.in_ok-turn-in-Goal.ensures

pub returns-in_ok-turn-in-Calling : goal.returns-in_ok-turn-in-Calling
returns-in_ok-turn-in-Calling c = λ p phase.
    let e = c.args.engine.now in
    let turn = c.in_ok-turn-in-Calling.turn in
    subst (λ q. HasGone c.args.reading c.args.bound e.program.now q turn.event c.from_calling.new.told.items turn.tests c.from_calling.new.engine turn.stage)
    (phase_same e c.args.stage (stage.Calling c.in-Calling.pred c.in-Calling.args c.in-Calling.height c.in-Calling.place c.in-Calling.rest) _ p c.in-Calling.is refl phase) c.in_ok-turn-in-Calling.ensures

pub returns-in_ok-turn-in-Failed : goal.returns-in_ok-turn-in-Failed
returns-in_ok-turn-in-Failed c = λ p phase.
    let e = c.args.engine.now in
    let turn = c.in_ok-turn-in-Failed.turn in
    subst (λ q. HasGone c.args.reading c.args.bound e.program.now q turn.event c.from_failure.new.told.items turn.tests c.from_failure.new.engine turn.stage) (phase_same e c.args.stage stage.Failed _ p c.in-Failed.is refl phase) c.in_ok-turn-in-Failed.ensures

pub returns-in-Over : goal.returns-in-Over
returns-in-Over c = λ p phase.
    let e = c.args.engine.now in
    subst (λ q. HasGone c.args.reading c.args.bound e.program.now q (Some (event.End c.in-Over.ending)) c.args.told.now.items 0 e (stage.Over c.in-Over.ending)) (phase_same e c.args.stage (stage.Over c.in-Over.ending) _ p c.in-Over.is refl phase) (over_gone c.args.reading c.args.bound e c.in-Over.ending c.args.told.now.items c.requires.none)
