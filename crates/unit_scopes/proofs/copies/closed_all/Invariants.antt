use Rattle.std.proofs.Common.{◌≡◌, length}
use Rattle.unit_scopes.specs.Copies.{closed_all}
use Rattle.unit_scopes.proofs.copies.closed_all.Given as goal

abbrev pub invariant-loop-outer : goal.invariant-loop-outer
invariant-loop-outer l = closed_all l.left l.made ≡ closed_all l.fn.compounds l.fn.term

abbrev pub decreases-loop-outer : goal.decreases-loop-outer
decreases-loop-outer l = length l.left
