use Rattle.term_core.proofs.RangeLaws.{ranges_stay}
use Rattle.term_core.proofs.laws.ranges_law.Goals as goal

pub returns : goal.returns
returns c = ranges_stay
