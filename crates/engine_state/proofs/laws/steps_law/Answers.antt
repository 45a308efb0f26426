use Rattle.engine_state.proofs.FewestLaws.{fewest_falls}
use Rattle.engine_state.proofs.laws.steps_law.Goals as goal

pub returns : goal.returns
returns c = fewest_falls
