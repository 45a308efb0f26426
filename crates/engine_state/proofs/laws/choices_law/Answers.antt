use Rattle.engine_state.proofs.ChoiceLaws.{later_choices, back_choices, pushed_choices}
use Rattle.engine_state.proofs.laws.choices_law.Goals as goal

pub returns : goal.returns
returns c = record { later = later_choices; back = back_choices; pushed = pushed_choices }
