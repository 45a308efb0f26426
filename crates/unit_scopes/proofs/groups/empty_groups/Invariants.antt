use Rattle.std.proofs.Common.{◌≡◌, ℕ, [], length}
use Rattle.std.specs.Prelude.{slice_index_or}
use Rattle.unit_scopes.proofs.groups.empty_groups.Given as goal

abbrev pub invariant-loop-group : goal.invariant-loop-group
invariant-loop-group l = (length l.groups.items ≡ l._group) × ((q : ℕ) → slice_index_or l.groups.items q [] ≡ [])
