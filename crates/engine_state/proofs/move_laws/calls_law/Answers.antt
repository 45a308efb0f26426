use Rattle.engine_state.proofs.MadeSteps.{calls_make}
use Rattle.engine_state.proofs.move_laws.calls_law.Goals as goal

pub returns : goal.returns
returns c = calls_make
