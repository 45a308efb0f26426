use Rattle.engine_state.proofs.MadeSteps.{failures_make}
use Rattle.engine_state.proofs.move_laws.failures_law.Goals as goal

pub returns : goal.returns
returns c = failures_make
