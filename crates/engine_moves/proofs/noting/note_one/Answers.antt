use Rattle.std.proofs.Common.{sym, ◌∙◌}
use Rattle.prop_check.specs.Places.{row_at}
use Rattle.engine_moves.proofs.NotingLaws.{one_noted, one_passed_over}
use Rattle.engine_moves.proofs.noting.note_one.Goals as goal

pub returns-then-not-pre_holds_at : goal.returns-then-not-pre_holds_at
returns-then-not-pre_holds_at c =
    one_passed_over c.args.program.now (row_at c.args.heap.now.changes c.args.args.first c.args.args.count) c.args.condition c.args.notes.now.items (sym c.pre_holds_at.ensures ∙ c.if-not-pre_holds_at.true)

pub returns : goal.returns
returns c =
    one_noted c.args.program.now (row_at c.args.heap.now.changes c.args.args.first c.args.args.count) c.args.condition c.args.notes.now.items c.push.new.self.items (sym c.pre_holds_at.ensures ∙ c.if-not-pre_holds_at.false) c.in_ok-push.ensures.items
