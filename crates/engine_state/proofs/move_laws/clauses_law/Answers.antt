use Rattle.engine_state.proofs.EnteredLaws.{clauses_enter}
use Rattle.engine_state.proofs.move_laws.clauses_law.Goals as goal

pub returns : goal.returns
returns c = clauses_enter
