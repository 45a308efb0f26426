use Rattle.std.proofs.Common.{◌≡◌, length}
use Rattle.body_code.specs.Conjunctions.{conjoined}
use Rattle.body_code.proofs.goals.conjoined.Given as goal

abbrev pub invariant-loop-goal : goal.invariant-loop-goal
invariant-loop-goal l = conjoined l.goals l.whole ≡ conjoined l.fn.goals l.fn.last

abbrev pub decreases-loop-goal : goal.decreases-loop-goal
decreases-loop-goal l = length l.goals
