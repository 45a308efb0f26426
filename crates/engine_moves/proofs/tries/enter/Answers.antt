use Rattle.std.proofs.Common.{refl}
use Rattle.engine_moves.proofs.EnterLaws.{entered_goal, entered_exit}
use Rattle.engine_moves.proofs.tries.enter.Goals as goal

pub returns-in-None : goal.returns-in-None
returns-in-None c = λ bound from move.
    entered_exit c.relied_law.ensures c.args.reading bound from c.args.engine.now c.put_behind.new.engine c.args.clause.now c.args.base c.args.pending c.in_ok-rest.rest c.requires c.in_ok-rest.ensures move c.in-None.ensures

pub returns-in-Some : goal.returns-in-Some
returns-in-Some c = λ bound from move.
    entered_goal c.relied_law.ensures c.args.reading bound from c.args.engine.now c.put_behind.new.engine c.args.clause.now c.args.base c.args.pending c.in_ok-rest.rest c.requires c.in_ok-rest.ensures move c.in-Some.body.now _ _ c.in-Some.ensures refl refl (λ due. due)
