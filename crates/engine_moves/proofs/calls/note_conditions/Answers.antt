use Rattle.std.proofs.Common.{arith}
use Rattle.engine_moves.proofs.CallLaws.{has_noted}
use Rattle.engine_moves.proofs.calls.note_conditions.Goals as goal

pub take_notes-requires-clause-grammar : goal.take_notes-requires-clause-grammar
take_notes-requires-clause-grammar c = c.requires.kept.in_range.grammar

pub take_notes-requires-clause-row : goal.take_notes-requires-clause-row
take_notes-requires-clause-row c = c.requires.placed.within

pub returns : goal.returns
returns c =
    let e = c.args.engine.now in
    has_noted c.args.reading c.args.kind c.args.pred c.args.args e c.requires.kept c.notes_law.ensures (c.moments_law.ensures e.program.now) (c.moments_give_law.ensures e.program.now) c.take_notes.new.notes _ _ c.in_ok-tests.tests c.in_ok-tests.ensures
    (omega (arith, c.len-first.ensures, e.notes.ok.0)) (omega (arith, c.len.ensures, c.take_notes.new.notes.ok.0))
