use Rattle.assertion_normal.proofs.NumberLaws.{conditions_numbered}
use Rattle.assertion_normal.proofs.laws.conditions_law.Goals as goal

pub returns : goal.returns
returns c = conditions_numbered
