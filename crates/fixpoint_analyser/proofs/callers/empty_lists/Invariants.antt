use Rattle.std.proofs.Common.{◌≡◌, ℕ, [], length}
use Rattle.std.specs.Prelude.{slice_index_or}
use Rattle.fixpoint_analyser.proofs.callers.empty_lists.Given as goal

abbrev pub invariant-loop-list : goal.invariant-loop-list
invariant-loop-list l = (length l.lists.items ≡ l._list) × ((q : ℕ) → slice_index_or l.lists.items q [] ≡ [])
