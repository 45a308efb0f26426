use Rattle.engine_state.proofs.MomentLaws.{moments_stay}
use Rattle.engine_state.proofs.laws.moments_law.Goals as goal

pub returns : goal.returns
returns c = moments_stay
