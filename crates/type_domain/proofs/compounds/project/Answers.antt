use Rattle.std.proofs.Common.{sym, subst}
use Rattle.std.specs.Prelude.{Some}
use Rattle.prog_data.specs.Values.{bit_at}
use Rattle.name_order.specs.Relations.{order}
use Rattle.type_domain.specs.Values.{IsValue}
use Rattle.type_domain.proofs.compounds.project.Goals as goal

pub returns-in-Some-clause-held : goal.returns-in-Some-clause-held
returns-in-Some-clause-held c = subst (IsValue (order c.args.rel.now)) (sym c.met_parts.ensures) ((c.given_law.ensures c.args.rel.now c.range.ensures).project (Some (bit_at c.in-Some.words)) c.args.name c.args.arity c.args.part)
