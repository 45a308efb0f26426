use Rattle.engine_state.proofs.NoteLaws.{notes_stay}
use Rattle.engine_state.proofs.laws.notes_law.Goals as goal

pub returns : goal.returns
returns c = notes_stay
