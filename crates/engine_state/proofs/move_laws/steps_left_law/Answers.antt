use Rattle.engine_state.proofs.StepsLeft.{fewest_left}
use Rattle.engine_state.proofs.move_laws.steps_left_law.Goals as goal

pub returns : goal.returns
returns c = fewest_left
