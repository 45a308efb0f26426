use Rattle.std.proofs.Common.{◌∷◌, [], length, sym, ap, subst, arith}
use Rattle.std.specs.List.{AllByRecursion}
use Rattle.std.proofs.lemmas.List.{length-append}
use Rattle.term_heap.specs.Loads.{IsPlaced}
use Rattle.heap_tests.proofs.Premises.{placed_last}
use Rattle.heap_tests.proofs.heads.two_terms.Goals as goal

pub returns-clause-placed : goal.returns-clause-placed
returns-clause-placed c =
    subst (AllByRecursion (IsPlaced 3 0)) (sym c.in_ok-push.ensures.ok) (placed_last 3 0 c.in_ok-terms.terms c.in_ok-term.term c.in_ok-terms.ensures.placed c.in_ok-term.ensures)

pub returns-clause-two : goal.returns-clause-two
returns-clause-two c = omega (arith, ap length c.in_ok-push.ensures.ok, length-append c.in_ok-terms.terms (c.in_ok-term.term ∷ []), c.in_ok-terms.ensures.one)
