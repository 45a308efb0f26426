use Rattle.engine_state.proofs.MadeSteps.{exits_make}
use Rattle.engine_state.proofs.move_laws.exits_law.Goals as goal

pub returns : goal.returns
returns c = exits_make
