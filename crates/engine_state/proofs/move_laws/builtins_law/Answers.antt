use Rattle.engine_state.proofs.MadeSteps.{builtins_make}
use Rattle.engine_state.proofs.move_laws.builtins_law.Goals as goal

pub returns : goal.returns
returns c = builtins_make
