use Rattle.clause_index.proofs.ClashLaws.{left_out_clash}
use Rattle.clause_index.proofs.laws.left_out_law.Goals as goal

pub returns : goal.returns
returns c = left_out_clash
