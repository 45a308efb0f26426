use Rattle.std.proofs.Common.{◌+◌, ◌*◌, length}
use Rattle.prop_check.proofs.chains.+chain.Given as goal

abbrev pub decreases-all_have : goal.decreases-all_have
decreases-all_have l = 2 * length l.names.now

abbrev pub decreases-first_has : goal.decreases-first_has
decreases-first_has l = 2 * length l.rest.now + 1
