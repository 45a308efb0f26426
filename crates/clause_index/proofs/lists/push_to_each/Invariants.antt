use Rattle.std.proofs.Common.{◌≡◌}
use Rattle.clause_index.proofs.FoundLaws.{placed_first}
use Rattle.clause_index.proofs.lists.push_to_each.Given as goal

abbrev pub invariant-loop-at : goal.invariant-loop-at
invariant-loop-at l = l.lists.entries ≡ placed_first l.at l.place l.fn.lists.entries
