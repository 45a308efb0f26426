use Rattle.std.proofs.Common.{◌∷◌, ◌++◌, [], length, sym, ap, subst, ◌∙◌}
use Rattle.std.specs.List.{AllByRecursion}
use Rattle.term_heap.specs.Loads.{IsPlaced}
use Rattle.heap_tests.proofs.heads.one_term.Goals as goal

pub returns-clause-placed : goal.returns-clause-placed
returns-clause-placed c = subst (AllByRecursion (IsPlaced 3 0)) (sym (c.in_ok-push.ensures.ok ∙ ap (λ xs. xs ++ c.in_ok-term.term ∷ []) c.new-terms.ensures)) (c.in_ok-term.ensures, tt)

pub returns-clause-one : goal.returns-clause-one
returns-clause-one c = ap length (c.in_ok-push.ensures.ok ∙ ap (λ xs. xs ++ c.in_ok-term.term ∷ []) c.new-terms.ensures)
