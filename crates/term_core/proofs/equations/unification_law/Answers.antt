use Rattle.term_core.proofs.Solving.{has_one_outcome}
use Rattle.term_core.proofs.equations.unification_law.Goals as goal

pub returns : goal.returns
returns c = has_one_outcome
