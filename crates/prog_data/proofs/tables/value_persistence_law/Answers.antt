use Rattle.prog_data.proofs.Persistence.{values_persist}
use Rattle.prog_data.proofs.tables.value_persistence_law.Goals as goal

pub returns : goal.returns
returns c = values_persist
