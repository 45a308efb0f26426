use Rattle.std.proofs.Common.{[], map, sym, subst}
use Rattle.prog_data.specs.declared.events.Event.TheVariants.{Broken}
use Rattle.engine_state.specs.declared.points.Alternative.TheVariants as alternative
use Rattle.engine_state.specs.declared.stages.Stage.TheVariants as stage
use Rattle.engine_state.specs.Turns.{back_state}
use Rattle.engine_moves.specs.Turned.{HasTurned}
use Rattle.engine_moves.specs.Tries.{try_state, IsToTry}
use Rattle.engine_moves.specs.Failures.{IsBackAt}
use Rattle.engine_moves.proofs.FailureLaws.{resumed, is_selected, is_to_try, clause_tried, mark_tested}
use Rattle.engine_moves.proofs.failing.take_up.Goals as goal

pub selected-number-requires : goal.selected-number-requires
selected-number-requires c = let e = c.args.engine.now in is_selected e c.in-Retries.key c.in-Retries.next _ c.in-Retries.pending (subst (IsBackAt e) c.in-Retries.is c.requires.back)

pub try_clause-requires : goal.try_clause-requires
try_clause-requires c =
    let e = c.args.engine.now in
    subst (λ k. IsToTry e k c.in-Retries.pending) (sym c.selected-number.ensures) (is_to_try e c.in-Retries.key c.in-Retries.next _ c.in-Retries.pending (subst (IsBackAt e) c.in-Retries.is c.requires.back))

pub test_mark-requires : goal.test_mark-requires
test_mark-requires c = let e = c.args.engine.now in (subst (IsBackAt e) c.in-Marks.is c.requires.back).noted

pub returns-in-Resumes : goal.returns-in-Resumes
returns-in-Resumes c = λ bound.
    let e = c.args.engine.now in
    let rest = c.in-Resumes.rest in
    subst (λ a. HasTurned c.args.reading bound e (back_state e a) (map Broken c.args.told.now.items) 0 e (stage.Doing rest)) (sym c.in-Resumes.is)
    (resumed c.relied_law.ensures c.args.reading bound e rest c.args.told.now.items c.requires.none (subst (IsBackAt e) c.in-Resumes.is c.requires.back))

pub returns-in_ok-turn-in-Retries : goal.returns-in_ok-turn-in-Retries
returns-in_ok-turn-in-Retries c = λ bound.
    let e = c.args.engine.now in
    let turn = c.in_ok-turn-in-Retries.turn in
    let new = c.try_clause.new.engine in
    let call = c.in-Retries.pending in
    subst (λ a. HasTurned c.args.reading bound e (back_state e a) (map Broken c.args.told.now.items) turn.tests new turn.stage) (sym c.in-Retries.is)
    (clause_tried e c.in-Retries.key c.in-Retries.next _ call (subst (IsBackAt e) c.in-Retries.is c.requires.back) c.args.reading bound new c.args.told.now.items turn.tests turn.stage c.requires.none
    (subst (λ k. HasTurned c.args.reading bound e (try_state e k call) [] turn.tests new turn.stage) c.selected-number.ensures (c.in_ok-turn-in-Retries.ensures bound)))

pub returns-in_ok-counted-in-Marks : goal.returns-in_ok-counted-in-Marks
returns-in_ok-counted-in-Marks c = λ bound.
    let e = c.args.engine.now in
    let counted = c.in_ok-counted-in-Marks.counted in
    subst (λ a. HasTurned c.args.reading bound e (back_state e a) (map Broken c.test_mark.new.told.items) counted.tests e c.failed_unless.result) (sym c.in-Marks.is)
    (subst (λ st. HasTurned c.args.reading bound e (back_state e (alternative.Marks c.in-Marks.field-0 c.in-Marks.conds c.in-Marks.exited)) (map Broken c.test_mark.new.told.items) counted.tests e st) (sym c.failed_unless.ensures)
    (mark_tested c.relied_law.ensures c.args.reading bound e _ c.in-Marks.conds c.in-Marks.exited (subst (IsBackAt e) c.in-Marks.is c.requires.back) c.args.told.now.items c.test_mark.new.told.items counted.tests counted.ended c.requires.none c.in_ok-counted-in-Marks.ensures))
