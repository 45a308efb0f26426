use Rattle.engine_state.proofs.CellMoves.{cells_move}
use Rattle.engine_state.proofs.move_laws.cells_law.Goals as goal

pub returns : goal.returns
returns c = λ what program bound made cs is. cells_move c.unification_law.ensures c.leaner_law.ensures c.leaner_states_law.ensures what program bound is made cs
