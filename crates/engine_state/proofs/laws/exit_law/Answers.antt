use Rattle.engine_state.proofs.ExitLaws.{exits, exit_counted, exit_in_order, exit_held}
use Rattle.engine_state.proofs.laws.exit_law.Goals as goal

pub returns : goal.returns
returns c = record {
  exits = λ changes links query height points are. exits changes links query height points are;
  counted = exit_counted;
  in_order = exit_in_order;
  held = exit_held;
}
