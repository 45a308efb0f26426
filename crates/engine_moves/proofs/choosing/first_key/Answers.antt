use Rattle.std.proofs.Common.{◌∙◌}
use Rattle.engine_moves.proofs.ChoosingLaws.{no_first, first_says}
use Rattle.engine_moves.proofs.choosing.first_key.Goals as goal

pub returns-then-args-eq0 : goal.returns-then-args-eq0
returns-then-args-eq0 c = no_first c.args.heap.now.changes c.args.args.first c.args.args.count c.if-args-eq0.true

pub returns : goal.returns
returns c = c.cell_key.ensures ∙ first_says c.args.heap.now.changes c.args.args.first c.args.args.count c.end_cell-cell.result c.if-args-eq0.false c.end_cell-cell.ensures
