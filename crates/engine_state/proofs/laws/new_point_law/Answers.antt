use Rattle.engine_state.proofs.ChoiceLaws.{now_choices, clauses_tried}
use Rattle.engine_state.proofs.laws.new_point_law.Goals as goal

pub returns : goal.returns
returns c = record { now = now_choices; clauses = clauses_tried }
