use Rattle.fsyntax_expand.proofs.RangeLaws.{clauses_stay}
use Rattle.fsyntax_expand.proofs.expand.clauses_in_range_law.Goals as goal

pub returns : goal.returns
returns c = clauses_stay
