use Rattle.std.proofs.Common.{[], ap, sym, ◌∙◌}
use Rattle.prog_data.specs.Values.{bit_at}
use Rattle.name_order.proofs.Gathering.{empty_set}
use Rattle.name_order.proofs.Lists.{absent_index}
use Rattle.name_order.proofs.sets.set_at.Goals as goal

pub returns-in-None : goal.returns-in-None
returns-in-None c = empty_set ∙ sym (ap bit_at (absent_index c.args.rows.now c.args.name [] (sym c.in-None.ensures)))
