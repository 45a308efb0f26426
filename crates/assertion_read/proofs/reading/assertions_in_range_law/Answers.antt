use Rattle.assertion_read.proofs.RangeLaws.{stays_in_range}
use Rattle.assertion_read.proofs.reading.assertions_in_range_law.Goals as goal

pub returns : goal.returns
returns c = λ sentence assertion computed. stays_in_range sentence assertion ((c.assertion_law.ensures sentence assertion).0 computed)
