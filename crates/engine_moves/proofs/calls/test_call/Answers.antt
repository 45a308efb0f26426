use Rattle.std.proofs.Common.{ℕ, Bool, [], ◌∷◌, None, sym, subst, of_calls}
use Rattle.machine_model.specs.Step.{Finding}
use Rattle.prog_data.specs.Conditions.{kind_of, calls_hold}
use Rattle.engine_state.specs.StepsMade.{found_at_call}
use Rattle.engine_state.specs.Findings.{HasAdded}
use Rattle.engine_moves.specs.Readings.{tests_by}
use Rattle.engine_moves.specs.Calling.{terms_at}
use Rattle.engine_moves.proofs.ExitLaws.{none_added}
use Rattle.engine_moves.proofs.calls.test_call.Goals as goal

pub returns-in-None : goal.returns-in-None
returns-in-None c =
    let e = c.args.engine.now in
    let stops : Bool = (tests_by e.program.now c.args.reading).stops in
    let find : ℕ → Finding = found_at_call e.program.now (terms_at e c.args.args) in
    let told = c.args.told.now.items in
    subst (λ cs. HasAdded stops 1 find cs told told 0 None) (sym c.in-None.ensures) (none_added c.tests_law.ensures stops 1 find told)

pub returns-in_ok-counted-in-Some : goal.returns-in_ok-counted-in-Some
returns-in_ok-counted-in-Some c =
    let e = c.args.engine.now in
    let program = e.program.now in
    let stops : Bool = (tests_by program c.args.reading).stops in
    let find : ℕ → Finding = found_at_call program (terms_at e c.args.args) in
    let told = c.args.told.now.items in
    let new = c.test_all.new.told.items in
    let counted = c.in_ok-counted-in-Some.counted in
    let one = c.in-Some.condition ∷ [] in
    let added : HasAdded c.stops.result 1 find one told new counted.tests counted.ended =
    c.in_ok-counted-in-Some.ensures (λ d. calls_hold program.grammar (terms_at e c.args.args) (kind_of program d)) (λ d b lt post. search of_calls) in
    subst (λ cs. HasAdded stops 1 find cs told new counted.tests counted.ended) (sym c.in-Some.ensures)
    (subst (λ s. HasAdded s 1 find one told new counted.tests counted.ended) (c.stops.ensures program) added)
