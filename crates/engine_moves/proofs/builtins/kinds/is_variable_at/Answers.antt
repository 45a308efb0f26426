use Rattle.std.proofs.Common.{◌∙◌}
use Rattle.engine_moves.proofs.KindLaws.{variable_at}
use Rattle.engine_moves.proofs.builtins.kinds.is_variable_at.Goals as goal

pub returns : goal.returns
returns c = c.is_free_cell.ensures ∙ variable_at c.args.heap.now.changes c.args.place c.end_cell-cell.result c.end_cell-cell.ensures
