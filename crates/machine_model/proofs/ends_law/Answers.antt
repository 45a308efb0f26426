use Rattle.machine_model.proofs.Ends.{ends}
use Rattle.machine_model.proofs.ends_law.Goals as goal

pub returns : goal.returns
returns c = ends
