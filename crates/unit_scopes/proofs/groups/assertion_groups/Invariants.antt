use Rattle.std.proofs.Common.{length}
use Rattle.unit_scopes.specs.Groups.{assertion_place}
use Rattle.unit_scopes.proofs.GroupLaws.{Grouping}
use Rattle.unit_scopes.proofs.groups.assertion_groups.Given as goal

abbrev pub invariant-loop-place : goal.invariant-loop-place
invariant-loop-place l = Grouping (length l.defined.keys) (assertion_place l.defined.keys) l.assertions l.place l.groups.items
