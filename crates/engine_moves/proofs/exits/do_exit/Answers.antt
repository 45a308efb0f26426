use Rattle.term_heap.specs.Changes.{size_of}
use Rattle.engine_state.specs.Stages.{choices_at}
use Rattle.engine_moves.specs.Readings.{tests_by}
use Rattle.engine_moves.proofs.ExitLaws.{exit_ended, exited}
use Rattle.engine_moves.proofs.exits.do_exit.Goals as goal

pub test_exit-requires-clause-kept : goal.test_exit-requires-clause-kept
test_exit-requires-clause-kept c = c.requires.at.kept

pub test_exit-requires-clause-placed : goal.test_exit-requires-clause-placed
test_exit-requires-clause-placed c = c.requires.at.in_hand.0

pub test_exit-requires-clause-noted : goal.test_exit-requires-clause-noted
test_exit-requires-clause-noted c = c.requires.at.in_hand.1

pub leave_mark-requires : goal.leave_mark-requires
leave_mark-requires c = c.requires.at.kept

pub returns-in-Some : goal.returns-in-Some
returns-in-Some c = λ bound.
    let e = c.args.engine.now in
    let what = tests_by e.program.now c.args.reading in
    exit_ended c.args.reading bound e c.args.exit c.args.rest (c.moves_law.ensures what e.program.now bound) (c.exits_law.ensures what e.program.now bound e.calls (size_of e.heap.changes) (choices_at e)) c.args.told.now.items c.test_exit.new.told.items
    c.requires.none c.in_ok-tested.tested c.in_ok-tested.ensures c.in-Some.ending c.in-Some.is

pub returns-in-None : goal.returns-in-None
returns-in-None c = λ bound.
    let e = c.args.engine.now in
    let what = tests_by e.program.now c.args.reading in
    exited c.args.reading bound e c.args.exit c.args.rest (c.moves_law.ensures what e.program.now bound) (c.exits_law.ensures what e.program.now bound e.calls (size_of e.heap.changes) (choices_at e)) c.args.told.now.items c.test_exit.new.told.items c.requires.none
    c.in_ok-tested.tested c.in_ok-tested.ensures c.leave_mark.new.engine c.in-None.is c.leave_mark.ensures c.leaner_states_law.ensures c.requires.at
