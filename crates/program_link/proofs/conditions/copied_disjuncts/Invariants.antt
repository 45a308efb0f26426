use Rattle.std.proofs.Common.{◌≡◌, ◌++◌, drop}
use Rattle.program_link.proofs.conditions.copied_disjuncts.Given as goal

abbrev pub invariant-loop-props : goal.invariant-loop-props
invariant-loop-props l = l.copies ++ drop l.props-index l.list ≡ l.list
