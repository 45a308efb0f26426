use Rattle.prog_data.proofs.Persistence.{conjunctions_persist}
use Rattle.prog_data.proofs.conditions.conjunction_persistence_law.Goals as goal

pub returns : goal.returns
returns c = conjunctions_persist
