use Rattle.std.proofs.Common.{ap, sym, subst}
use Rattle.std.specs.Prelude.{Some}
use Rattle.name_order.specs.Relations.{order}
use Rattle.type_domain.specs.Values.{IsValue}
use Rattle.type_domain.proofs.values.of_name.Goals as goal

pub returns-clause-held : goal.returns-clause-held
returns-clause-held c = subst (IsValue (order c.args.rel.now)) (sym (ap Some c.above.ensures)) ((c.given_law.ensures c.args.rel.now c.range.ensures).name c.args.name c.requires)
