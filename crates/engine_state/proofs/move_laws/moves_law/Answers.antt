use Rattle.engine_state.proofs.Composing.{moves_compose}
use Rattle.engine_state.proofs.move_laws.moves_law.Goals as goal

pub returns : goal.returns
returns c = moves_compose
