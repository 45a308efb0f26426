use Rattle.std.proofs.Common.{◌≡◌, true, length, map, drop}
use Rattle.std.specs.List.{list_all}
use Rattle.prog_data.specs.Values.{seen}
use Rattle.name_order.specs.Relations.{order}
use Rattle.goal_transfer.specs.Conditions.{some_excluded}
use Rattle.goal_transfer.specs.Range.{is_named}
use Rattle.goal_transfer.proofs.properties.some_excluded.Given as goal

abbrev pub invariant-loop-prop : goal.invariant-loop-prop
invariant-loop-prop l =
    (list_all (is_named (length l.rel.rules)) (drop l.prop-index l.props) ≡ true)
    × (some_excluded (order l.rel) (map seen l.values) (drop l.prop-index l.props) ≡ some_excluded (order l.rel) (map seen l.values) l.props)
