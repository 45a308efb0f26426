use Rattle.name_order.specs.Relations.{order}
use Rattle.type_domain.proofs.Stored.{fitting_one}
use Rattle.type_domain.proofs.values.fitting.Goals as goal

pub returns-in-Some : goal.returns-in-Some
returns-in-Some c = fitting_one (order c.args.rel.now) c.args.value.now c.unless_apart.result _ c.in-Some.is c.unless_apart.ensures
