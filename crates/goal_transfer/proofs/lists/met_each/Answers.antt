use Rattle.std.proofs.Common.{map, drop}
use Rattle.prog_data.specs.Values.{seen}
use Rattle.name_order.specs.Relations.{order}
use Rattle.goal_transfer.specs.Conditions.{meet_each}
use Rattle.goal_transfer.proofs.Stored.{met_end}
use Rattle.goal_transfer.proofs.lists.met_each.Goals as goal

pub returns-in-None : goal.returns-in-None
returns-in-None c =
    met_end (order c.args.rel.now) (map seen c.loop-index.made) (meet_each (order c.args.rel.now) (map seen c.args.left.now) (map seen c.args.right.now)) (map seen (drop c.loop-index.index c.args.left.now)) c.args.right.now c.loop-index.index c.in-None.ensures.lookup.3 c.loop-index.invariant
