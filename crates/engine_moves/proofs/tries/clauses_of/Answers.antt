use Rattle.std.proofs.Common.{sym}
use Rattle.engine_moves.proofs.ClauseRanges.{absent_pred}
use Rattle.engine_moves.proofs.tries.clauses_of.Goals as goal

pub returns-in-None : goal.returns-in-None
returns-in-None c = absent_pred c.args.program.now c.args.pred (sym c.in-None.ensures.value)
