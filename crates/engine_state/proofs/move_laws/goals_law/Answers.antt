use Rattle.engine_state.proofs.MadeSteps.{goals_make}
use Rattle.engine_state.proofs.move_laws.goals_law.Goals as goal

pub returns : goal.returns
returns c = goals_make
