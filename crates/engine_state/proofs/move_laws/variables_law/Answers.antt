use Rattle.engine_state.proofs.WithinLaws.{variables_within}
use Rattle.engine_state.proofs.move_laws.variables_law.Goals as goal

pub returns : goal.returns
returns c = variables_within
