use Rattle.std.proofs.Common.{◌≡◌, ◌++◌, map}
use Rattle.term_core.specs.Operands.{conjuncts}
use Rattle.term_core.proofs.ConjunctLoop.{stack_conjuncts, stack_size}
use Rattle.term_core.proofs.operands.conjuncts.Given as goal

abbrev pub invariant-loop-next : goal.invariant-loop-next
invariant-loop-next l = map (λ t. t.now) l.terms ++ stack_conjuncts (map (λ t. t.now) l.pending) ≡ conjuncts l.fn.term

abbrev pub decreases-loop-next : goal.decreases-loop-next
decreases-loop-next l = stack_size (map (λ t. t.now) l.pending)
