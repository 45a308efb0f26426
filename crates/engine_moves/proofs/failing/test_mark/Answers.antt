use Rattle.std.proofs.Common.{◌≡◌, rules, ap, subst, ◌∙◌}
use Rattle.std.specs.Prelude.{not}
use Rattle.prog_data.specs.Conditions.{kind_of, failure_breaks}
use Rattle.engine_state.specs.Views.{row_of}
use Rattle.engine_state.specs.StepsMade.{found_at_failure}
use Rattle.engine_state.specs.Findings.{HasAdded}
use Rattle.engine_moves.specs.Readings.{tests_by}
use Rattle.engine_moves.proofs.failing.test_mark.Goals as goal

pub returns : goal.returns
returns c =
    let e = c.args.engine.now in
    let program = e.program.now in
    let told = c.args.told.now.items in
    let new = c.test_all.new.told.items in
    let counted = c.in_ok-counted.counted in
    let row : c.noted-conditions.result.now ≡ row_of e.notes.items c.args.conds = c.noted-conditions.ensures ∙ ap (λ ns. row_of ns c.args.conds) c.as_slice.ensures.value in
    subst (λ cs. HasAdded (tests_by program c.args.reading).stops 0 (found_at_failure program c.args.exited) cs told new counted.tests counted.ended) row
    (subst (λ s. HasAdded s 0 (found_at_failure program c.args.exited) c.noted-conditions.result.now told new counted.tests counted.ended) (c.stops.ensures program)
    (c.in_ok-counted.ensures (λ d. not (failure_breaks c.args.exited (kind_of program d))) (λ d b less post. search rules)))
