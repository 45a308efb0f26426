use Rattle.term_core.proofs.VariantTests.{shaped_alike, tested_alike, same_alike}
use Rattle.term_core.proofs.laws.variant_tests_law.Goals as goal

pub returns-clause-shaped : goal.returns-clause-shaped
returns-clause-shaped c = shaped_alike

pub returns-clause-tested : goal.returns-clause-tested
returns-clause-tested c = tested_alike

pub returns-clause-same : goal.returns-clause-same
returns-clause-same c = same_alike
