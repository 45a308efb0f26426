-- The sizes of compounds and of longer lists.
use Rattle.std.proofs.Common.{◌≡◌, ℕ, ◌+◌, List, [], ◌∷◌, ◌++◌, arith}
use Rattle.term_core.specs.declared.terms.Term.{Term, Node}
use Rattle.term_core.specs.Sizes.{size, size_step, size_all}
use Rattle.term_core.proofs.TermFolds.{fold-Node}

pub size-Node : (f : ℕ) (ts : List Term) → size (Node f ts) ≡ size_all ts + 1
size-Node f ts = fold-Node ℕ size_step f ts

pub size_all_push : (ts : List Term) (t : Term) → size_all (ts ++ t ∷ []) ≡ size_all ts + size t
size_all_push [] t = omega arith
size_all_push (u ∷ us) t = let rest : _ = size_all_push us t in omega (arith, rest)
