use Rattle.engine_state.proofs.PointMoves.{goes_back}
use Rattle.engine_state.proofs.move_laws.back_law.Goals as goal

pub returns : goal.returns
returns c = λ program is. goes_back c.leaner_states_law.ensures program is
