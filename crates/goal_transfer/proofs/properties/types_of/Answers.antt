use Rattle.name_order.specs.Relations.{order}
use Rattle.type_domain.specs.Values.{term_name, of_name}
use Rattle.goal_transfer.specs.Conditions.{type_of, types_of}
use Rattle.goal_transfer.proofs.NameTests.{listed_turn}
use Rattle.goal_transfer.proofs.properties.types_of.Goals as goal

pub loop-argument-preserved : goal.loop-argument-preserved
loop-argument-preserved c =
    listed_turn (λ i. type_of (order c.args.rel.now) i (of_name (order c.args.rel.now) term_name) c.args.props.now) c.loop-argument.made c.push.new.self c.type_of.result c.loop-argument.argument c.args.arity
    (types_of (order c.args.rel.now) c.args.arity c.args.props.now) c.loop-argument-test.true c.loop-argument.invariant c.in_ok-push.ensures.ok c.type_of.ensures
