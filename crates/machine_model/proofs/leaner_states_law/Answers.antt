use Rattle.machine_model.proofs.LeanerStates.{leaner_states}
use Rattle.machine_model.proofs.leaner_states_law.Goals as goal

pub returns : goal.returns
returns c = leaner_states
