use Rattle.std.proofs.Common.{◌≡◌, true, length, map, drop}
use Rattle.std.specs.List.{list_all}
use Rattle.prog_data.specs.Values.{seen}
use Rattle.name_order.specs.Relations.{order}
use Rattle.goal_transfer.specs.Conditions.{all_implied}
use Rattle.goal_transfer.specs.Range.{is_named}
use Rattle.goal_transfer.proofs.properties.all_implied.Given as goal

abbrev pub invariant-loop-prop : goal.invariant-loop-prop
invariant-loop-prop l =
    (list_all (is_named (length l.rel.rules)) (drop l.prop-index l.props) ≡ true)
    × (all_implied (order l.rel) (map seen l.values) (drop l.prop-index l.props) ≡ all_implied (order l.rel) (map seen l.values) l.props)
