use Rattle.engine_state.proofs.FrameLaws.{frame_bound}
use Rattle.engine_state.proofs.laws.bound_law.Goals as goal

pub returns : goal.returns
returns c = frame_bound
