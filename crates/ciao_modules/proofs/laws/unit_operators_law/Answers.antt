use Rattle.ciao_modules.proofs.OperatorLaws.{units_made}
use Rattle.ciao_modules.proofs.laws.unit_operators_law.Goals as goal

pub returns : goal.returns
returns c = units_made
