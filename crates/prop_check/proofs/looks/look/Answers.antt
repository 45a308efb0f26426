use Rattle.prop_check.proofs.CellLaws.{says}
use Rattle.prop_check.proofs.looks.look.Goals as goal

pub returns : goal.returns
returns c = says c.args.heap.now.changes c.args.place c.root-root.result c.cell.result c.len-size.ensures.made c.root-root.ensures.place c.root-root.ensures.end c.root-root.ensures.value c.cell.ensures
