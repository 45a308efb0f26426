use Rattle.std.proofs.Common.{map, sym, ◌∙◌, subst}
use Rattle.prog_data.specs.Values.{seen}
use Rattle.name_order.specs.Relations.{order}
use Rattle.type_domain.specs.Values.{IsValue}
use Rattle.type_domain.proofs.Stored.{built}
use Rattle.type_domain.proofs.compounds.build.Goals as goal

pub returns-clause-value : goal.returns-clause-value
returns-clause-value c = built (order c.args.rel.now) c.args.name (map seen c.args.parts.now) c.names_with.result c.names_with.ensures (sym c.all_set.ensures ∙ c.if-not-all_set.false)

pub returns-clause-held : goal.returns-clause-held
returns-clause-held c = λ u. subst (IsValue (order c.args.rel.now)) (sym (returns-clause-value c)) ((c.given_law.ensures c.args.rel.now c.range.ensures).build c.args.name (map seen c.args.parts.now) u)
