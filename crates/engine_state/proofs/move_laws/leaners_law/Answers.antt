use Rattle.engine_state.proofs.LeanerMoves.{leaners_move}
use Rattle.engine_state.proofs.move_laws.leaners_law.Goals as goal

pub returns : goal.returns
returns c = λ what program bound is. leaners_move c.leaner_law.ensures c.leaner_states_law.ensures what program bound is
