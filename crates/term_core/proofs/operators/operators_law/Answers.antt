use Rattle.term_core.proofs.OperatorChanges.{added_sets}
use Rattle.term_core.proofs.OperatorTables.{made_orderly, made_one_root}
use Rattle.term_core.proofs.operators.operators_law.Goals as goal

pub returns-clause-orderly : goal.returns-clause-orderly
returns-clause-orderly c = made_orderly

pub returns-clause-one_root : goal.returns-clause-one_root
returns-clause-one_root c = made_one_root

pub returns-clause-changes : goal.returns-clause-changes
returns-clause-changes c = added_sets
