use Rattle.std.proofs.Common.{sym, subst}
use Rattle.engine_state.specs.Stages.{tasks_at, doing, IsDue}
use Rattle.engine_moves.specs.Linked.{IsDueAt}
use Rattle.sld_engine.proofs.TurningLaws.{turned_gone, link_gone, answer_at, answer_gone}
use Rattle.sld_engine.proofs.turning.from_link.Goals as goal

pub from_goal-requires-clause-due : goal.from_goal-requires-clause-due
from_goal-requires-clause-due c =
    let d = subst (IsDueAt c.args.reading c.args.engine.now c.args.number c.do_link.new.told.items c.do_link.new.engine) c.in-Goal.is c.in_ok-due.ensures in
    subst (λ e. IsDue e c.in-Goal.goal.now c.in-Goal.setting) (sym d.2) d.1

pub from_goal-requires-clause-none : goal.from_goal-requires-clause-none
from_goal-requires-clause-none c = (subst (IsDueAt c.args.reading c.args.engine.now c.args.number c.do_link.new.told.items c.do_link.new.engine) c.in-Goal.is c.in_ok-due.ensures).3

pub answer-requires : goal.answer-requires
answer-requires c =
    let d = subst (IsDueAt c.args.reading c.args.engine.now c.args.number c.do_link.new.told.items c.do_link.new.engine) c.in-Answer.is c.in_ok-due.ensures in
    answer_at c.args.engine.now c.do_link.new.engine c.args.number c.requires.whole d.0 d.1

pub returns-in_ok-turn-in-Goal : goal.returns-in_ok-turn-in-Goal
returns-in_ok-turn-in-Goal c =
    let d = subst (IsDueAt c.args.reading c.args.engine.now c.args.number c.do_link.new.told.items c.do_link.new.engine) c.in-Goal.is c.in_ok-due.ensures in
    let turn = c.in_ok-turn-in-Goal.turn in
    link_gone c.args.reading c.args.bound c.args.engine.now c.do_link.new.engine c.from_goal.new.engine c.in-Goal.goal.now c.in-Goal.setting c.args.number turn.event c.from_goal.new.told.items turn.tests turn.stage d.0 d.2 c.in_ok-turn-in-Goal.ensures

pub returns-in_ok-term-in-Answer : goal.returns-in_ok-term-in-Answer
returns-in_ok-term-in-Answer c =
    let d = subst (IsDueAt c.args.reading c.args.engine.now c.args.number c.do_link.new.told.items c.do_link.new.engine) c.in-Answer.is c.in_ok-due.ensures in
    answer_gone c.args.reading c.args.bound c.args.engine.now c.do_link.new.engine c.args.number c.in_ok-term-in-Answer.term c.do_link.new.told.items d.0 d.1 d.2 (c.in_ok-term-in-Answer.ensures c.args.reading c.args.bound)

pub returns-in-Done : goal.returns-in-Done
returns-in-Done c =
    let e = c.args.engine.now in
    let d = subst (IsDueAt c.args.reading e c.args.number c.do_link.new.told.items c.do_link.new.engine) c.in-Done.is c.in_ok-due.ensures in
    turned_gone c.args.reading c.args.bound e c.do_link.new.engine (doing e (tasks_at e c.args.number)) c.in-Done.turn.stage c.do_link.new.told.items c.in-Done.turn.tests (d c.args.bound)
