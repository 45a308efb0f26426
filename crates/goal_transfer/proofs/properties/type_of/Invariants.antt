use Rattle.std.proofs.Common.{◌≡◌, true, length, drop}
use Rattle.std.specs.List.{list_all}
use Rattle.prog_data.specs.Values.{seen}
use Rattle.name_order.specs.Relations.{order}
use Rattle.type_domain.specs.Values.{term_name, of_name}
use Rattle.goal_transfer.specs.Conditions.{type_of}
use Rattle.goal_transfer.specs.Range.{is_named}
use Rattle.goal_transfer.proofs.properties.type_of.Given as goal

abbrev pub invariant-loop-prop : goal.invariant-loop-prop
invariant-loop-prop l =
    (list_all (is_named (length l.rel.rules)) (drop l.prop-index l.props) ≡ true)
    × (type_of (order l.rel) l.argument (seen l.value) (drop l.prop-index l.props) ≡ type_of (order l.rel) l.argument (of_name (order l.rel) term_name) l.props)
