use Rattle.std.proofs.Common.{map, ap, ◌∙◌}
use Rattle.std.specs.Prelude.{Some}
use Rattle.prog_data.specs.Values.{seen}
use Rattle.name_order.specs.Relations.{order}
use Rattle.goal_transfer.proofs.Narrowed.{absent_entry}
use Rattle.goal_transfer.proofs.narrowing.narrowed_entry.Goals as goal

pub returns-in_ok-from_slice-in-None : goal.returns-in_ok-from_slice-in-None
returns-in_ok-from_slice-in-None c =
    ap (λ vs. Some (map seen vs)) c.in_ok-from_slice-in-None.ensures ∙ absent_entry c.args.program.now (order c.args.rel.now) c.args.pred (map seen c.args.entry.now) c.in-None.ensures.value
