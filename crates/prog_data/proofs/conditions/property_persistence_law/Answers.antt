use Rattle.prog_data.proofs.Persistence.{properties_persist}
use Rattle.prog_data.proofs.conditions.property_persistence_law.Goals as goal

pub returns : goal.returns
returns c = properties_persist
