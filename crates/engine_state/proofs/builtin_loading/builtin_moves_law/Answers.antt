use Rattle.engine_state.proofs.BuiltinMoves.{builtins_move}
use Rattle.engine_state.proofs.builtin_loading.builtin_moves_law.Goals as goal

pub returns : goal.returns
returns c = builtins_move c.unification_law.ensures c.leaner_law.ensures c.leaner_states_law.ensures
