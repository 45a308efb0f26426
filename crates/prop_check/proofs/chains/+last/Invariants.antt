use Rattle.std.proofs.Common.{◌+◌, ◌*◌, length}
use Rattle.prop_check.proofs.chains.+last.Given as goal

abbrev pub decreases-last_name : goal.decreases-last_name
decreases-last_name l = 2 * length l.names.now

abbrev pub decreases-last_behind : goal.decreases-last_behind
decreases-last_behind l = 2 * length l.rest.now + 1
