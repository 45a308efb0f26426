use Rattle.std.proofs.Common.{◌+◌, ◌*◌, take}
use Rattle.term_core.specs.Sizes.{size, size_all}
use Rattle.prop_check.proofs.narrowing.+narrowing.Given as goal

abbrev pub decreases-narrow : goal.decreases-narrow
decreases-narrow l = 2 * size l.term.now

abbrev pub decreases-narrowed : goal.decreases-narrowed
decreases-narrowed l = 2 * size_all (take l.left l.parts.now) + 1
