use Rattle.engine_state.proofs.LeanerMoves.{calls_move}
use Rattle.engine_state.proofs.move_laws.chosen_law.Goals as goal

pub returns : goal.returns
returns c = λ what program bound is. calls_move c.leaner_law.ensures c.leaner_states_law.ensures what program bound is
