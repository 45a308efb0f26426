use Rattle.std.proofs.Common.{sym, ◌∙◌}
use Rattle.prog_data.specs.Conditions.{kind_of}
use Rattle.prop_check.specs.Places.{row_at}
use Rattle.engine_moves.specs.Looking.{is_of}
use Rattle.engine_moves.proofs.NotingLaws.{one_kept, one_left_out}
use Rattle.engine_moves.proofs.noting.note_by_kind.Goals as goal

pub returns-then-is_of : goal.returns-then-is_of
returns-then-is_of c =
    one_kept c.args.program.now (row_at c.args.heap.now.changes c.args.args.first c.args.args.count) (λ d. is_of c.args.kind (kind_of c.args.program.now d)) c.args.condition c.args.notes.now.items c.note_one.new.notes.items c.in_ok-tests.tests
    (sym c.is_of.ensures ∙ c.if-is_of.true) c.in_ok-tests.ensures

pub returns : goal.returns
returns c =
    one_left_out c.args.program.now (row_at c.args.heap.now.changes c.args.args.first c.args.args.count) (λ d. is_of c.args.kind (kind_of c.args.program.now d)) c.args.condition c.args.notes.now.items (sym c.is_of.ensures ∙ c.if-is_of.false)
