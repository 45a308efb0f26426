use Rattle.engine_state.proofs.PointMoves.{points_pushed}
use Rattle.engine_state.proofs.move_laws.pushed_law.Goals as goal

pub returns : goal.returns
returns c = points_pushed
