use Rattle.std.proofs.Common.{◌≡◌, ◌++◌, drop, map}
use Rattle.assertion_normal.specs.Conditions.{disjuncts}
use Rattle.assertion_normal.proofs.conditions.preconditions.Given as goal

abbrev pub invariant-loop-settled : goal.invariant-loop-settled
invariant-loop-settled l = l.found ++ map (λ s. s.pre) (disjuncts (drop l.settled-index l.list)) ≡ map (λ s. s.pre) (disjuncts l.list)
