use Rattle.name_order.proofs.BelowLaws.{meets_symmetric}
use Rattle.name_order.proofs.laws.meets_symmetric_law.Goals as goal

pub returns : goal.returns
returns c = meets_symmetric
