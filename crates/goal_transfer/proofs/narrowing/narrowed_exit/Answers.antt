use Rattle.std.proofs.Common.{map, ap, ◌∙◌}
use Rattle.prog_data.specs.Values.{seen}
use Rattle.name_order.specs.Relations.{order}
use Rattle.goal_transfer.proofs.Narrowed.{absent_exit}
use Rattle.goal_transfer.proofs.narrowing.narrowed_exit.Goals as goal

pub returns-in_ok-from_slice-in-None : goal.returns-in_ok-from_slice-in-None
returns-in_ok-from_slice-in-None c =
    ap (map seen) c.in_ok-from_slice-in-None.ensures ∙ absent_exit c.args.program.now (order c.args.rel.now) c.args.pred (map seen c.args.entry.now) (map seen c.args.exit.now) c.in-None.ensures.value
