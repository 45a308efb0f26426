use Rattle.std.proofs.Common.{rules}
use Rattle.term_core.specs.Standard.{start}
use Rattle.term_core.proofs.operators.OpTable.standard.Goals as goal

pub invariant_of-result : goal.invariant_of-result
invariant_of-result c = start (search rules)
