use Rattle.std.proofs.Common.{◌≡◌, Bool, false, not, Some, None, sym, ap, subst, ◌∙◌, of_calls}
use Rattle.machine_model.specs.Step.{mark_of, mark_conds, mark_exited}
use Rattle.prog_data.specs.Conditions.{kind_of, exit_breaks}
use Rattle.engine_state.specs.StepsMade.{found_at_mark}
use Rattle.engine_state.specs.Stages.{choices_at}
use Rattle.engine_state.specs.Views.{row_of}
use Rattle.engine_state.specs.Findings.{HasAdded}
use Rattle.engine_moves.specs.Readings.{tests_by}
use Rattle.engine_moves.proofs.ExitLaws.{none_added}
use Rattle.engine_moves.proofs.exits.test_mark.Goals as goal

pub returns-in-None : goal.returns-in-None
returns-in-None c =
    let e = c.args.engine.now in
    let stops : Bool = (tests_by e.program.now c.args.reading).stops in
    let told = c.args.told.now.items in
    subst (λ m. HasAdded stops 0 (found_at_mark e.program.now (mark_exited (mark_of m (choices_at e)))) (mark_conds (mark_of m (choices_at e))) told told 0 None) (sym c.in-None.is)
    (none_added c.tests_law.ensures stops 0 (found_at_mark e.program.now false) told)

pub returns-in_ok-counted-in-Some : goal.returns-in_ok-counted-in-Some
returns-in_ok-counted-in-Some c =
    let e = c.args.engine.now in
    let program = e.program.now in
    let stops : Bool = (tests_by program c.args.reading).stops in
    let told = c.args.told.now.items in
    let new = c.test_all.new.told.items in
    let counted = c.in_ok-counted-in-Some.counted in
    let marked = c.mark_at-marked.result in
    let seen = c.mark_at-marked.ensures.mark in
    let conds = c.noted-conditions.result.now in
    let added : HasAdded c.stops.result 0 (found_at_mark program marked.exited) conds told new counted.tests counted.ended =
    c.in_ok-counted-in-Some.ensures (λ d. not (exit_breaks marked.exited (kind_of program d))) (λ d b lt post. search of_calls) in
    let row : conds ≡ mark_conds (mark_of (Some c.in-Some.height) (choices_at e)) = c.noted-conditions.ensures ∙ ap (λ ns. row_of ns marked.conds) c.as_slice.ensures.value ∙ ap (λ m. m.conds) seen in
    let by_reading : HasAdded stops 0 (found_at_mark program marked.exited) conds told new counted.tests counted.ended =
    subst (λ s. HasAdded s 0 (found_at_mark program marked.exited) conds told new counted.tests counted.ended) (c.stops.ensures program) added in
    let by_row : HasAdded stops 0 (found_at_mark program marked.exited) (mark_conds (mark_of (Some c.in-Some.height) (choices_at e))) told new counted.tests counted.ended =
    subst (λ cs. HasAdded stops 0 (found_at_mark program marked.exited) cs told new counted.tests counted.ended) row by_reading in
    subst (λ m. HasAdded stops 0 (found_at_mark program (mark_exited (mark_of m (choices_at e)))) (mark_conds (mark_of m (choices_at e))) told new counted.tests counted.ended) (sym c.in-Some.is)
    (subst (λ x. HasAdded stops 0 (found_at_mark program x) (mark_conds (mark_of (Some c.in-Some.height) (choices_at e))) told new counted.tests counted.ended) (ap (λ m. m.exited) seen) by_row)
