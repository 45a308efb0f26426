use Rattle.unify_core.proofs.NewLaws.{fresh_new}
use Rattle.unify_core.proofs.laws.new_law.Goals as goal

pub returns : goal.returns
returns c = fresh_new
