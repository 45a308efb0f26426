use Rattle.std.proofs.Common.{◌≡◌, ◌+◌, ◌++◌, drop, length}
use Rattle.unit_scopes.specs.Numbering.{numbered}
use Rattle.unit_scopes.proofs.indicators.numbered.Given as goal

abbrev pub invariant-loop-indicator : goal.invariant-loop-indicator
invariant-loop-indicator l =
    (l.named ++ numbered l.next (drop l.indicator-index l.indicators) ≡ numbered l.fn.first l.indicators)
    × (length (drop l.indicator-index l.indicators) + l.next ≡ length l.indicators + l.fn.first)
