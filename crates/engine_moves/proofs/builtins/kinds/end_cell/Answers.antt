use Rattle.engine_moves.proofs.KindLaws.{end_says}
use Rattle.engine_moves.proofs.builtins.kinds.end_cell.Goals as goal

pub returns : goal.returns
returns c = end_says c.args.heap.now.changes c.args.place c.root-root.result c.cell.result c.len-size.ensures.made c.root-root.ensures.place c.root-root.ensures.end c.root-root.ensures.value c.cell.ensures
