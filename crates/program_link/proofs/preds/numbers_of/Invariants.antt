use Rattle.std.proofs.Common.{◌≡◌, ◌++◌, drop, map}
use Rattle.program_link.proofs.preds.numbers_of.Given as goal

abbrev pub invariant-loop-cond : goal.invariant-loop-cond
invariant-loop-cond l = l.numbers ++ map (λ c. c.id) (drop l.cond-index l.conds) ≡ map (λ c. c.id) l.conds
