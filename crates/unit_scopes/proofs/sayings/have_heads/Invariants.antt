use Rattle.std.proofs.Common.{◌≡◌, drop}
use Rattle.std.specs.List.{list_all}
use Rattle.unit_scopes.specs.Sayings.{has_head}
use Rattle.unit_scopes.proofs.sayings.have_heads.Given as goal

abbrev pub invariant-loop-clause : goal.invariant-loop-clause
invariant-loop-clause l = list_all has_head (drop l.clause-index l.clauses) ≡ list_all has_head l.clauses
