use Rattle.unit_scopes.proofs.FileRanges.{files_stay}
use Rattle.unit_scopes.proofs.ranges.files_in_range_law.Goals as goal

pub returns : goal.returns
returns c = files_stay c.rules_in_range_law.ensures c.clauses_in_range_law.ensures c.assertions_in_range_law.ensures
