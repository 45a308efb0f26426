use Rattle.std.proofs.Common.{ap}
use Rattle.goal_transfer.proofs.StoredExits.{facts_absent}
use Rattle.goal_transfer.proofs.exits.entry_of.Goals as goal

pub returns-in-None : goal.returns-in-None
returns-in-None c = ap (λ r. r.entry) (facts_absent c.args.table.now.rows c.args.pred c.in-None.ensures.value)
