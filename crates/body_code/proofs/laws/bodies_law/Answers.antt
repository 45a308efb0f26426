use Rattle.body_code.proofs.FirstProblems.{bodies_are_of_parts}
use Rattle.body_code.proofs.laws.bodies_law.Goals as goal

pub returns : goal.returns
returns c = bodies_are_of_parts
