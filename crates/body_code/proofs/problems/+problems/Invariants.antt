use Rattle.std.proofs.Common.{◌≡◌, ◌≤◌, ◌+◌, ◌*◌, drop, map}
use Rattle.term_core.specs.Sizes.{size, size_all}
use Rattle.body_code.specs.Problems.{sooner, first_of}
use Rattle.body_code.specs.Bodies.{body_of}
use Rattle.body_code.proofs.problems.+problems.Given as goal

abbrev pub invariant-parts_problem-loop-part : goal.invariant-parts_problem-loop-part
invariant-parts_problem-loop-part l =
    sooner l.first (first_of (map (λ part. part.problem) (map (body_of l.scope) (drop l.part-index l.parts)))) ≡ first_of (map (λ part. part.problem) (map (body_of l.scope) l.parts))

-- what was found and the rest is all, and the rest is no larger
abbrev pub invariant-problem_in-loop-part : goal.invariant-problem_in-loop-part
invariant-problem_in-loop-part l = (sooner l.first (body_of l.scope l.left).problem ≡ (body_of l.scope l.fn.body).problem) × (size l.left ≤ size l.fn.body)

abbrev pub decreases-problem_in-loop-part : goal.decreases-problem_in-loop-part
decreases-problem_in-loop-part l = size l.left

abbrev pub decreases-problem_in : goal.decreases-problem_in
decreases-problem_in l = 4 * size l.body.now + 1

abbrev pub decreases-term_problem : goal.decreases-term_problem
decreases-term_problem l = 4 * size l.term.now

abbrev pub decreases-named_problem : goal.decreases-named_problem
decreases-named_problem l = 4 * size_all l.arguments.now + 3

abbrev pub decreases-parts_problem : goal.decreases-parts_problem
decreases-parts_problem l = 4 * size_all l.parts.now + 2
