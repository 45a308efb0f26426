use Rattle.engine_state.proofs.GivenLaws.{moments_give}
use Rattle.engine_state.proofs.laws.moments_give_law.Goals as goal

pub returns : goal.returns
returns c = moments_give
