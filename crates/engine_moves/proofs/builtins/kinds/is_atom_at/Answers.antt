use Rattle.std.proofs.Common.{◌∙◌}
use Rattle.engine_moves.proofs.KindLaws.{atom_at}
use Rattle.engine_moves.proofs.builtins.kinds.is_atom_at.Goals as goal

pub returns : goal.returns
returns c = c.is_atom_cell.ensures ∙ atom_at c.args.heap.now.changes c.args.place c.end_cell-cell.result c.end_cell-cell.ensures
