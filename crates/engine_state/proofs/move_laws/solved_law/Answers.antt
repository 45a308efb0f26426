use Rattle.engine_state.proofs.SolvedMoves.{solved_move}
use Rattle.engine_state.proofs.move_laws.solved_law.Goals as goal

pub returns : goal.returns
returns c = λ what program bound is. solved_move c.unification_law.ensures c.leaner_law.ensures c.leaner_states_law.ensures what program bound is
