use Rattle.engine_state.proofs.WithinMoments.{moments_within}
use Rattle.engine_state.proofs.laws.moments_within_law.Goals as goal

pub returns : goal.returns
returns c = moments_within
