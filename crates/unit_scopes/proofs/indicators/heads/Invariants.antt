use Rattle.std.proofs.Common.{◌≡◌, [], drop}
use Rattle.unit_scopes.specs.Numbering.{heads_behind}
use Rattle.unit_scopes.proofs.indicators.heads.Given as goal

abbrev pub invariant-loop-clause : goal.invariant-loop-clause
invariant-loop-clause l = heads_behind l.index.keys (drop l.clause-index l.clauses) ≡ heads_behind [] l.clauses
