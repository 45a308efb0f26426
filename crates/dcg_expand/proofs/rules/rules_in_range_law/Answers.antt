use Rattle.dcg_expand.proofs.RangeLaws.{rules_stay}
use Rattle.dcg_expand.proofs.rules.rules_in_range_law.Goals as goal

pub returns : goal.returns
returns c = rules_stay
