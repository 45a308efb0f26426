use Rattle.std.proofs.Common.{◌∙◌}
use Rattle.engine_moves.proofs.KindLaws.{integer_at}
use Rattle.engine_moves.proofs.builtins.kinds.is_integer_at.Goals as goal

pub returns : goal.returns
returns c = c.is_integer_cell.ensures ∙ integer_at c.args.heap.now.changes c.args.place c.end_cell-cell.result c.end_cell-cell.ensures
