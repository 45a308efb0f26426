use Rattle.std.proofs.Common.{◌≡◌, ◌++◌, ◌&&◌, not, drop, filter}
use Rattle.std.specs.Prelude.{nat_eq}
use Rattle.std.specs.List.{list_any}
use Rattle.unit_scopes.specs.Imports.{type_indicator}
use Rattle.unit_scopes.specs.Sources.{index_gets}
use Rattle.unit_scopes.proofs.visible.add_types_given.Given as goal

abbrev pub invariant-loop-seen : goal.invariant-loop-seen
invariant-loop-seen l =
    l.types ++ filter (λ t. index_gets l.source.index l.at l.other.index (type_indicator t.name) && not (list_any (nat_eq t.name) l.source.declared.keys)) (drop l.seen-index l.seen-items)
    ≡ l.fn.types ++ filter (λ t. index_gets l.source.index l.at l.other.index (type_indicator t.name) && not (list_any (nat_eq t.name) l.source.declared.keys)) l.seen-items
