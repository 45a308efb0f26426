use Rattle.goal_transfer.proofs.ExitRuns.{exits_change_nothing}
use Rattle.goal_transfer.proofs.laws.exit_law.Goals as goal

pub returns : goal.returns
returns c = exits_change_nothing
