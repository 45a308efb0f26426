use Rattle.machine_model.proofs.Continuing.{left_laws}
use Rattle.machine_model.proofs.left_law.Goals as goal

pub returns : goal.returns
returns c = left_laws
