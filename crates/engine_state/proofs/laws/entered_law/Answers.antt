use Rattle.engine_state.proofs.FrameLaws.{fresh_same, new_head, new_body}
use Rattle.engine_state.proofs.laws.entered_law.Goals as goal

pub returns : goal.returns
returns c = record { values = fresh_same; head = new_head; body = new_body }
