use Rattle.std.proofs.Common.{◌≡◌, ◌++◌, map, drop}
use Rattle.clause_index.specs.Keys.{head_key}
use Rattle.clause_index.proofs.keys.head_keys.Given as goal

abbrev pub invariant-loop-clause : goal.invariant-loop-clause
invariant-loop-clause l = l.keys ++ map head_key (drop l.clause-index l.clauses) ≡ map head_key l.clauses
