use Rattle.std.proofs.Common.{arith}
use Rattle.engine_state.specs.Stages.{choices_at}
use Rattle.engine_moves.proofs.GoingOn.{call_there}
use Rattle.engine_moves.proofs.CallLaws.{to_third, to_fourth, to_fifth, has_called}
use Rattle.engine_moves.proofs.calls.make_call.Goals as goal

pub note_conditions-requires-clause-kept : goal.note_conditions-requires-clause-kept
note_conditions-requires-clause-kept c = c.let_go.ensures.kept

pub note_conditions-requires-clause-placed : goal.note_conditions-requires-clause-placed
note_conditions-requires-clause-placed c =
    let e0 = c.args.engine.now in
    call_there e0 c.let_go.new.self c.args.rest (choices_at e0) c.args.pred c.args.args c.let_go.ensures c.requires.placed

pub add_mark-requires-clause-kept : goal.add_mark-requires-clause-kept
add_mark-requires-clause-kept c = c.in_ok-marked.ensures.goes.kept

pub add_mark-requires-clause-noted : goal.add_mark-requires-clause-noted
add_mark-requires-clause-noted c = c.in_ok-marked.ensures.within

pub note_conditions-requires-2-clause-kept : goal.note_conditions-requires-2-clause-kept
note_conditions-requires-2-clause-kept c = c.in_ok-mark.ensures.goes.kept

pub note_conditions-requires-2-clause-placed : goal.note_conditions-requires-2-clause-placed
note_conditions-requires-2-clause-placed c =
    let e0 = c.args.engine.now in
    let e2 = c.note_conditions.new.engine in
    call_there e0 c.add_mark.new.engine c.args.rest _ c.args.pred c.args.args
    (to_third c.args.reading c.args.pred c.args.args c.args.rest e0 c.let_go.new.self e2 c.add_mark.new.engine c.in_ok-marked.marked c.in_ok-mark.mark c.let_go.ensures c.in_ok-marked.ensures c.in_ok-mark.ensures) c.requires.placed

pub add_clauses-requires-clause-kept : goal.add_clauses-requires-clause-kept
add_clauses-requires-clause-kept c = c.in_ok-noted.ensures.goes.kept

pub add_clauses-requires-clause-placed : goal.add_clauses-requires-clause-placed
add_clauses-requires-clause-placed c =
    let e0 = c.args.engine.now in
    let e2 = c.note_conditions.new.engine in
    call_there e0 c.note_conditions-2.new.engine c.args.rest _ c.args.pred c.args.args
    (to_fourth c.args.reading c.args.pred c.args.args c.args.rest e0 c.let_go.new.self e2 c.add_mark.new.engine c.in_ok-marked.marked c.in_ok-mark.mark c.let_go.ensures c.in_ok-marked.ensures c.in_ok-mark.ensures c.note_conditions-2.new.engine c.in_ok-noted.noted
    c.in_ok-noted.ensures) c.requires.placed

pub add_clauses-requires-clause-noted : goal.add_clauses-requires-clause-noted
add_clauses-requires-clause-noted c = c.in_ok-noted.ensures.within

pub add_clauses-requires-clause-rest : goal.add_clauses-requires-clause-rest
add_clauses-requires-clause-rest c =
    let e0 = c.args.engine.now in
    let e2 = c.note_conditions.new.engine in
    (to_fourth c.args.reading c.args.pred c.args.args c.args.rest e0 c.let_go.new.self e2 c.add_mark.new.engine c.in_ok-marked.marked c.in_ok-mark.mark c.let_go.ensures c.in_ok-marked.ensures c.in_ok-mark.ensures c.note_conditions-2.new.engine c.in_ok-noted.noted
    c.in_ok-noted.ensures).there

pub overflow_add-engine : goal.overflow_add-engine
overflow_add-engine c =
    let e0 = c.args.engine.now in
    let e2 = c.note_conditions.new.engine in
    let calls = (to_fifth c.args.reading c.args.pred c.args.args c.args.rest e0 c.let_go.new.self e2 c.add_mark.new.engine c.in_ok-marked.marked c.in_ok-mark.mark c.let_go.ensures c.in_ok-marked.ensures c.in_ok-mark.ensures c.note_conditions-2.new.engine c.in_ok-noted.noted
    c.in_ok-noted.ensures c.add_clauses.new.engine c.in_ok-add_clauses.ensures).calls in
    omega (arith, calls, c.requires.bound)

pub returns : goal.returns
returns c =
    let e0 = c.args.engine.now in
    let e2 = c.note_conditions.new.engine in
    has_called c.args.reading c.args.pred c.args.args c.args.rest e0 c.let_go.new.self e2 c.add_mark.new.engine c.in_ok-marked.marked c.in_ok-mark.mark c.let_go.ensures c.in_ok-marked.ensures c.in_ok-mark.ensures c.note_conditions-2.new.engine c.in_ok-noted.noted
    c.in_ok-noted.ensures c.add_clauses.new.engine c.in_ok-add_clauses.ensures c.args.bound _ (omega (arith, c.saturating_add.ensures))
