use Rattle.machine_model.proofs.MarkOwners.{marks_owned}
use Rattle.machine_model.proofs.marks_law.Goals as goal

pub returns : goal.returns
returns c = marks_owned
