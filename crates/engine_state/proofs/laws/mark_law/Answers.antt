use Rattle.engine_state.proofs.ExitLaws.{found_marks}
use Rattle.engine_state.proofs.laws.mark_law.Goals as goal

pub returns : goal.returns
returns c = λ changes links query height points are. found_marks changes links query height points are
