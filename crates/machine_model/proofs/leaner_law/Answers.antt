use Rattle.machine_model.proofs.LeanerRuns.{leaner_tells}
use Rattle.machine_model.proofs.leaner_law.Goals as goal

pub returns : goal.returns
returns c = leaner_tells
