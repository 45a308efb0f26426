use Rattle.std.proofs.Common.{◌∷◌, ◌++◌, [], sym, ap, subst, ◌∙◌}
use Rattle.std.specs.List.{AllByRecursion}
use Rattle.term_heap.specs.Loads.{IsPlaced}
use Rattle.heap_tests.proofs.Premises.{placed_node}
use Rattle.heap_tests.proofs.unification.around.Goals as goal

pub returns : goal.returns
returns c =
    placed_node 3 0 c.args.name c.push.new.self
    (subst (AllByRecursion (IsPlaced 3 0)) (sym (c.in_ok-push.ensures.ok ∙ ap (λ xs. xs ++ c.args.part ∷ []) c.new-parts.ensures)) (c.requires, tt))
