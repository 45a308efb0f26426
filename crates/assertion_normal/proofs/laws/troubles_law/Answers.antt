use Rattle.assertion_normal.proofs.TroubleLaws.{troubles_found}
use Rattle.assertion_normal.proofs.laws.troubles_law.Goals as goal

pub returns : goal.returns
returns c = troubles_found
