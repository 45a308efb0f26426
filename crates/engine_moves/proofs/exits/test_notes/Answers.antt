use Rattle.std.proofs.Common.{◌≡◌, ℕ, Bool, ap, subst, ◌∙◌, of_calls}
use Rattle.machine_model.specs.Step.{Finding}
use Rattle.prog_data.specs.Conditions.{kind_of, post_holds}
use Rattle.engine_state.specs.StepsMade.{found_at_exit}
use Rattle.engine_state.specs.Views.{row_of}
use Rattle.engine_state.specs.Findings.{HasAdded}
use Rattle.engine_moves.specs.Readings.{tests_by}
use Rattle.engine_moves.specs.Calling.{terms_at}
use Rattle.engine_moves.proofs.exits.test_notes.Goals as goal

pub returns : goal.returns
returns c =
    let e = c.args.engine.now in
    let program = e.program.now in
    let exit = c.args.exit in
    let stops : Bool = (tests_by program c.args.reading).stops in
    let find : ℕ → Finding = found_at_exit program (terms_at e exit.args) in
    let told = c.args.told.now.items in
    let new = c.test_all.new.told.items in
    let counted = c.in_ok-counted.counted in
    let conds = c.noted-conditions.result.now in
    let added : HasAdded c.stops.result 1 find conds told new counted.tests counted.ended = c.in_ok-counted.ensures (λ d. post_holds program.grammar (terms_at e exit.args) (kind_of program d)) (λ d b lt post. search of_calls) in
    let row : conds ≡ row_of e.notes.items exit.noted = c.noted-conditions.ensures ∙ ap (λ ns. row_of ns exit.noted) c.as_slice.ensures.value in
    subst (λ cs. HasAdded stops 1 find cs told new counted.tests counted.ended) row (subst (λ s. HasAdded s 1 find conds told new counted.tests counted.ended) (c.stops.ensures program) added)
