use Rattle.std.proofs.Common.{length}
use Rattle.unit_scopes.specs.Groups.{clause_place}
use Rattle.unit_scopes.proofs.GroupLaws.{Grouping}
use Rattle.unit_scopes.proofs.groups.clause_groups.Given as goal

abbrev pub invariant-loop-place : goal.invariant-loop-place
invariant-loop-place l = Grouping (length l.defined.keys) (clause_place l.defined.keys) l.clauses l.place l.groups.items
