use Rattle.std.proofs.Common.{sym, subst}
use Rattle.prog_data.specs.Values.{seen}
use Rattle.name_order.specs.Relations.{order}
use Rattle.type_domain.specs.Values.{IsValue}
use Rattle.type_domain.proofs.Given.{meet_given}
use Rattle.type_domain.proofs.Stored.{met_both}
use Rattle.type_domain.proofs.values.meet.Goals as goal

pub returns-in-Some-names-clause-value : goal.returns-in-Some-names-clause-value
returns-in-Some-names-clause-value c = met_both (order c.args.rel.now) c.args.a.now c.args.b.now c.unless_apart.result _ _ _ c.in-Some.is c.in-Some-names.is c.in_either.ensures c.unless_apart.ensures

pub returns-in-Some-names-clause-held : goal.returns-in-Some-names-clause-held
returns-in-Some-names-clause-held c = λ u v. subst (IsValue (order c.args.rel.now)) (sym (returns-in-Some-names-clause-value c)) (meet_given (order c.args.rel.now) (seen c.args.a.now) (seen c.args.b.now) u v)
