use Rattle.std.proofs.Common.{sym, ap}
use Rattle.engine_moves.proofs.LookingLaws.{absent_pred}
use Rattle.engine_moves.proofs.looking.checks_of.Goals as goal

pub returns-in-None : goal.returns-in-None
returns-in-None c = ap (λ pred. pred.call_checks) (absent_pred c.args.program.now c.args.pred (sym c.in-None.ensures.value))
