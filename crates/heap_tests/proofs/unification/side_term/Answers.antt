use Rattle.std.proofs.Common.{◌∷◌, ◌++◌, [], sym, ap, subst, ◌∙◌}
use Rattle.std.specs.List.{AllByRecursion}
use Rattle.term_heap.specs.Loads.{IsPlaced}
use Rattle.heap_tests.proofs.Premises.{placed_node}
use Rattle.heap_tests.proofs.unification.side_term.Goals as goal

pub returns : goal.returns
returns c =
    let first = c.in_ok-first.first in
    let second = c.in_ok-second.second in
    placed_node 3 0 80 c.push-2.new.self
    (subst (AllByRecursion (IsPlaced 3 0))
    (sym (c.in_ok-push-2.ensures.ok ∙ ap (λ xs. xs ++ second ∷ []) (c.in_ok-push.ensures.ok ∙ ap (λ xs. xs ++ first ∷ []) c.new-parts.ensures)))
    (c.in_ok-first.ensures, (c.in_ok-second.ensures, tt)))
