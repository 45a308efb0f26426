use Rattle.std.proofs.Common.{length, sym, subst, arith}
use Rattle.machine_model.specs.State.{exit_mark}
use Rattle.engine_state.specs.Stages.{choices_at}
use Rattle.engine_state.specs.Turns.{GoesTo}
use Rattle.engine_moves.proofs.GoingOn.{stays}
use Rattle.engine_moves.proofs.exits.leave_mark.Goals as goal

pub returns-in-None : goal.returns-in-None
returns-in-None c =
    let e = c.args.engine.now in
    subst (λ m. GoesTo e (length e.links.items) (exit_mark m (choices_at e)) e) (sym c.in-None.is) (stays e (length e.links.items) c.requires (omega arith))
