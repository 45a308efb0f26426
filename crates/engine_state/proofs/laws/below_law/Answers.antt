use Rattle.engine_state.proofs.BelowLaws.{stands_below}
use Rattle.engine_state.proofs.laws.below_law.Goals as goal

pub returns : goal.returns
returns c = stands_below
