use Rattle.prog_data.proofs.Persistence.{membership_persists}
use Rattle.prog_data.proofs.grammars.persistence_law.Goals as goal

pub returns : goal.returns
returns c = membership_persists
