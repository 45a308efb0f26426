use Rattle.engine_state.proofs.TestedLaws.{tests_join}
use Rattle.engine_state.proofs.move_laws.tests_law.Goals as goal

pub returns : goal.returns
returns c = tests_join
