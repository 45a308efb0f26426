use Rattle.engine_state.proofs.SolvedMoves.{solved_have}
use Rattle.engine_state.proofs.move_laws.bindings_law.Goals as goal

pub returns : goal.returns
returns c = solved_have c.unification_law.ensures
