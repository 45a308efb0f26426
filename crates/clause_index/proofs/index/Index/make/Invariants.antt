use Rattle.std.proofs.Common.{◌≡◌, ◌++◌, map, drop}
use Rattle.clause_index.specs.Keys.{head_key}
use Rattle.clause_index.proofs.index.Index.make.Given as goal

abbrev pub invariant-loop-pred : goal.invariant-loop-pred
invariant-loop-pred l = l.preds ++ map (λ pred. map head_key pred.clauses) (drop l.pred-index l.pred-items) ≡ map (λ pred. map head_key pred.clauses) l.pred-items
