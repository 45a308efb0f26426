use Rattle.std.proofs.Common.{◌≡◌, ◌++◌, drop}
use Rattle.unit_scopes.specs.Held.{clauses_at}
use Rattle.unit_scopes.proofs.types.add_clauses.Given as goal

abbrev pub invariant-loop-place : goal.invariant-loop-place
invariant-loop-place l = l.made ++ clauses_at l.clauses (drop l.place-index l.places) ≡ l.fn.made ++ clauses_at l.clauses l.places
