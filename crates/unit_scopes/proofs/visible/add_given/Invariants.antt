use Rattle.std.proofs.Common.{◌≡◌, ◌++◌, ◌&&◌, not, drop, filter}
use Rattle.unit_scopes.specs.Indicators.{is_among}
use Rattle.unit_scopes.specs.Imports.{indicator_named}
use Rattle.unit_scopes.specs.Sources.{index_gets}
use Rattle.unit_scopes.proofs.visible.add_given.Given as goal

abbrev pub invariant-loop-named : goal.invariant-loop-named
invariant-loop-named l =
    l.preds ++ filter (λ m. index_gets l.index l.at l.other.index (indicator_named m) && not (is_among (indicator_named m) l.index.defined.keys)) (drop l.named-index l.named-items)
    ≡ l.fn.preds ++ filter (λ m. index_gets l.index l.at l.other.index (indicator_named m) && not (is_among (indicator_named m) l.index.defined.keys)) l.named-items
