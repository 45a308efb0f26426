use Rattle.ciao_reader.proofs.OneTree.{one_tree}
use Rattle.term_core.proofs.OperatorTables.{made_one_root}
use Rattle.ciao_reader.proofs.laws.one_reading_law.Goals as goal

pub returns : goal.returns
returns c = λ ops m. one_tree ops (made_one_root ops m)
