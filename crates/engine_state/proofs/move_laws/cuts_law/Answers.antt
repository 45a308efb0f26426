use Rattle.engine_state.proofs.CutStays.{cuts_stay}
use Rattle.engine_state.proofs.move_laws.cuts_law.Goals as goal

pub returns : goal.returns
returns c = cuts_stay
