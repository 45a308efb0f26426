use Rattle.assertion_normal.proofs.GrowingRanges.{ranges_grow}
use Rattle.assertion_normal.proofs.laws.ranges_grow_law.Goals as goal

pub returns : goal.returns
returns c = ranges_grow
