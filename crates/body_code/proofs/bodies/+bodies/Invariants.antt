use Rattle.std.proofs.Common.{◌≡◌, ◌≤◌, ◌+◌, ◌*◌}
use Rattle.std.specs.Prelude.{option_map}
use Rattle.term_core.specs.Sizes.{size, size_all}
use Rattle.body_code.specs.Bodies.{body_of}
use Rattle.body_code.specs.Conjunctions.{conjoined_before}
use Rattle.body_code.specs.Ranges.{Grows}
use Rattle.body_code.proofs.bodies.+bodies.Given as goal

-- the goals before what is left are all, the grammar has grown, and what is left is no larger
abbrev pub invariant-goal_of-loop-part : goal.invariant-goal_of-loop-part
invariant-goal_of-loop-part l = record {
  whole : option_map (conjoined_before l.goals) ((body_of l.scope l.left).makes l.grammar) ≡ (body_of l.scope l.fn.body).makes l.fn.grammar;
  grown : Grows l.scope l.fn.grammar l.grammar;
  smaller : size l.left ≤ size l.fn.body;
}

abbrev pub decreases-goal_of-loop-part : goal.decreases-goal_of-loop-part
decreases-goal_of-loop-part l = size l.left

abbrev pub decreases-goal_of : goal.decreases-goal_of
decreases-goal_of l = 9 * size l.body.now + 1

abbrev pub decreases-term_goal : goal.decreases-term_goal
decreases-term_goal l = 9 * size l.term.now

abbrev pub decreases-named_goal : goal.decreases-named_goal
decreases-named_goal l = 9 * size_all l.arguments.now + 8

abbrev pub decreases-control_goal : goal.decreases-control_goal
decreases-control_goal l = 9 * size_all l.parts.now + 7

abbrev pub decreases-pair_goal : goal.decreases-pair_goal
decreases-pair_goal l = 9 * (size l.first.now + size l.second.now) + 6

abbrev pub decreases-either : goal.decreases-either
decreases-either l = 9 * (size l.first.now + size l.second.now) + 5

abbrev pub decreases-chosen : goal.decreases-chosen
decreases-chosen l = 9 * (size l.condition.now + size l.first.now + size l.second.now) + 3

abbrev pub decreases-in_turn : goal.decreases-in_turn
decreases-in_turn l = 9 * (size l.first.now + size l.second.now) + 2
