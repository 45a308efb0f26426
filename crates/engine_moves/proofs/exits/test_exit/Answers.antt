use Rattle.std.proofs.Common.{subst, arith}
use Rattle.engine_state.specs.StepsMade.{found_at_exit}
use Rattle.engine_state.specs.Views.{row_of}
use Rattle.engine_state.specs.Findings.{HasAdded}
use Rattle.engine_moves.specs.Readings.{tests_by}
use Rattle.engine_moves.specs.Calling.{terms_at}
use Rattle.engine_moves.proofs.ExitLaws.{ended_first, both_tested}
use Rattle.engine_moves.proofs.exits.test_exit.Goals as goal

pub returns-in-Some : goal.returns-in-Some
returns-in-Some c = ended_first c.tests_law.ensures c.args.reading c.args.engine.now c.args.exit c.args.told.now.items c.test_notes.new.told.items c.in_ok-first.first _ c.in-Some.is c.in_ok-first.ensures

pub returns-in_ok-second-in-None : goal.returns-in_ok-second-in-None
returns-in_ok-second-in-None c =
    let e = c.args.engine.now in
    let exit = c.args.exit in
    both_tested c.tests_law.ensures c.args.reading e exit c.args.told.now.items c.test_notes.new.told.items c.test_mark.new.told.items c.in_ok-first.first.tests c.in_ok-second-in-None.second.tests _ c.in_ok-second-in-None.second.ended
    (subst (λ o. HasAdded (tests_by e.program.now c.args.reading).stops 1 (found_at_exit e.program.now (terms_at e exit.args)) (row_of e.notes.items exit.noted) c.args.told.now.items c.test_notes.new.told.items c.in_ok-first.first.tests o) c.in-None.is c.in_ok-first.ensures)
    c.in_ok-second-in-None.ensures (omega (arith, c.saturating_add.ensures))
