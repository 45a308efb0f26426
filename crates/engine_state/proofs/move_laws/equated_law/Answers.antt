use Rattle.engine_state.proofs.EquatedLaws.{equated_alike}
use Rattle.engine_state.proofs.move_laws.equated_law.Goals as goal

pub returns : goal.returns
returns c = equated_alike
