use Rattle.std.proofs.Common.{◌+◌, ◌*◌}
use Rattle.goal_transfer.proofs.GoalRuns.{weight}
use Rattle.goal_transfer.proofs.bodies.+bodies.Given as goal

abbrev pub decreases-run : goal.decreases-run
decreases-run l = 2 * weight l.goal.now

abbrev pub decreases-run_both : goal.decreases-run_both
decreases-run_both l = 2 * (weight l.first.now + weight l.second.now) + 1

abbrev pub decreases-run_either : goal.decreases-run_either
decreases-run_either l = 2 * (weight l.first.now + weight l.second.now) + 1

abbrev pub decreases-run_branches : goal.decreases-run_branches
decreases-run_branches l = 2 * (weight l.condition.now + weight l.first.now + weight l.second.now) + 2

abbrev pub decreases-run_apart : goal.decreases-run_apart
decreases-run_apart l = 2 * weight l.goal.now + 1
