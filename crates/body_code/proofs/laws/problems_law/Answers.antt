use Rattle.body_code.proofs.FirstProblems.{first_is_found}
use Rattle.body_code.proofs.laws.problems_law.Goals as goal

pub returns : goal.returns
returns c = first_is_found
