use Rattle.machine_model.proofs.ErasureRuns.{told_erases}
use Rattle.machine_model.proofs.told_erasure_law.Goals as goal

pub returns : goal.returns
returns c = told_erases
