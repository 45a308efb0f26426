use Rattle.std.proofs.Common.{◌≡◌, drop}
use Rattle.assertion_normal.specs.Conditions.{disjuncts, first_line}
use Rattle.assertion_normal.proofs.conditions.first_line.Given as goal

abbrev pub invariant-loop-settled : goal.invariant-loop-settled
invariant-loop-settled l = first_line (disjuncts (drop l.settled-index l.list)) ≡ first_line (disjuncts l.list)
