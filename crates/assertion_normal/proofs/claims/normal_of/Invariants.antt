use Rattle.std.proofs.Common.{◌≡◌, ◌+◌, ◌++◌, drop, length}
use Rattle.assertion_normal.specs.Conditions.{conditions_from, conditions_of, claims_from, claims_of, entries_of}
use Rattle.assertion_normal.proofs.claims.normal_of.Given as goal

abbrev pub invariant-loop-settled : goal.invariant-loop-settled
invariant-loop-settled l = record {
  conds : l.conds ++ conditions_from l.about.file l.about.pred (length l.conds + l.about.first) (drop l.settled-index l.list) ≡ conditions_of l.about.file l.about.pred l.about.first l.list;
  claims : l.claims ++ claims_from l.about.file l.about.pred l.about.first (length l.conds + l.about.first) (drop l.settled-index l.list) ≡ claims_of l.about.file l.about.pred l.about.first l.list;
  entries : l.entries ++ entries_of l.about.pred (drop l.settled-index l.list) ≡ entries_of l.about.pred l.list;
}
