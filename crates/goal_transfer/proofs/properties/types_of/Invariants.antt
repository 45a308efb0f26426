use Rattle.std.proofs.Common.{◌≡◌, ◌++◌, map}
use Rattle.prog_data.specs.Values.{seen}
use Rattle.name_order.specs.Relations.{order}
use Rattle.type_domain.specs.Values.{term_name, of_name}
use Rattle.type_domain.proofs.NameLoops.{names_left}
use Rattle.goal_transfer.specs.Conditions.{type_of, types_of}
use Rattle.goal_transfer.proofs.properties.types_of.Given as goal

abbrev pub invariant-loop-argument : goal.invariant-loop-argument
invariant-loop-argument l = map seen l.made ++ map (λ i. type_of (order l.rel) i (of_name (order l.rel) term_name) l.props) (names_left l.argument l.arity) ≡ types_of (order l.rel) l.arity l.props
