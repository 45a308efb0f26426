use Rattle.std.proofs.Common.{◌≡◌, ◌≤◌, ◌++◌, reverse}
use Rattle.engine_moves.specs.SamePairs.{paired}
use Rattle.engine_moves.proofs.builtins.comparing.push_pairs.Given as goal

abbrev pub invariant-loop-count : goal.invariant-loop-count
invariant-loop-count l = record {
  within : l.count ≤ l.fn.count;
  all : l.work.items ++ reverse (paired l.fn.left l.fn.right l.count) ≡ l.fn.work.items ++ reverse (paired l.fn.left l.fn.right l.fn.count);
}

abbrev pub decreases-loop-count : goal.decreases-loop-count
decreases-loop-count l = l.count
