use Rattle.engine_state.proofs.WithinLaws.{tasks_within}
use Rattle.engine_state.proofs.move_laws.tasks_law.Goals as goal

pub returns : goal.returns
returns c = tasks_within
