use Rattle.std.proofs.Common.{map, drop}
use Rattle.prog_data.specs.Values.{seen}
use Rattle.goal_transfer.specs.Conditions.{join_each}
use Rattle.goal_transfer.proofs.Stored.{joined_end}
use Rattle.goal_transfer.proofs.lists.joined_each.Goals as goal

pub returns-in-None : goal.returns-in-None
returns-in-None c =
    joined_end (map seen c.loop-index.made) (join_each (map seen c.args.left.now) (map seen c.args.right.now)) (map seen (drop c.loop-index.index c.args.left.now)) c.args.right.now c.loop-index.index c.in-None.ensures.lookup.3 c.loop-index.invariant
