use Rattle.std.proofs.Common.{arith}
use Rattle.term_heap.specs.Changes.{size_of}
use Rattle.engine_state.specs.Stages.{choices_at}
use Rattle.engine_moves.specs.Readings.{tests_by}
use Rattle.engine_moves.proofs.CallLaws.{refused, broken, called}
use Rattle.engine_moves.proofs.calls.do_call.Goals as goal

pub test_call-requires-clause-kept : goal.test_call-requires-clause-kept
test_call-requires-clause-kept c = c.requires.whole.kept

pub test_call-requires-clause-placed : goal.test_call-requires-clause-placed
test_call-requires-clause-placed c = c.requires.whole.in_hand.0

pub make_call-requires-clause-kept : goal.make_call-requires-clause-kept
make_call-requires-clause-kept c = c.requires.whole.kept

pub make_call-requires-clause-placed : goal.make_call-requires-clause-placed
make_call-requires-clause-placed c = c.requires.whole.in_hand.0

pub make_call-requires-clause-rest : goal.make_call-requires-clause-rest
make_call-requires-clause-rest c = c.requires.whole.in_hand.1

pub returns-then-engine-bound : goal.returns-then-engine-bound
returns-then-engine-bound c =
    let e = c.args.engine.now in
    let what = tests_by e.program.now c.args.reading in
    refused c.args.reading c.args.bound e c.args.pred c.args.args c.args.height c.args.place c.args.rest (c.moves_law.ensures what e.program.now c.args.bound) (c.calls_law.ensures what e.program.now c.args.bound e.calls (size_of e.heap.changes) (choices_at e))
    c.args.told.now.items c.requires.none (omega (arith, c.if-engine-bound.true))

pub returns-in-Some : goal.returns-in-Some
returns-in-Some c =
    let e = c.args.engine.now in
    let what = tests_by e.program.now c.args.reading in
    broken c.args.reading c.args.bound e c.args.pred c.args.args c.args.height c.args.place c.args.rest (c.moves_law.ensures what e.program.now c.args.bound) (c.calls_law.ensures what e.program.now c.args.bound e.calls (size_of e.heap.changes) (choices_at e))
    c.args.told.now.items c.test_call.new.told.items c.requires.none (omega (arith, c.if-engine-bound.false)) c.in_ok-tested.tested c.in_ok-tested.ensures c.in-Some.ending c.in-Some.is

pub returns-in_ok-looked-in-None : goal.returns-in_ok-looked-in-None
returns-in_ok-looked-in-None c =
    let e = c.args.engine.now in
    let what = tests_by e.program.now c.args.reading in
    called c.args.reading c.args.bound e c.args.pred c.args.args c.args.height c.args.place c.args.rest (c.moves_law.ensures what e.program.now c.args.bound) (c.calls_law.ensures what e.program.now c.args.bound e.calls (size_of e.heap.changes) (choices_at e))
    c.args.told.now.items c.test_call.new.told.items c.requires.none (omega (arith, c.if-engine-bound.false)) c.in_ok-tested.tested c.in_ok-tested.ensures c.requires.whole c.leaner_states_law.ensures c.left_out_law.ensures
    c.make_call.new.engine c.in_ok-looked-in-None.looked _ c.in-None.is c.in_ok-looked-in-None.ensures (omega (arith, c.saturating_add.ensures)) (c.chosen_law.ensures what e.program.now c.args.bound c.requires.whole.kept.in_range)
