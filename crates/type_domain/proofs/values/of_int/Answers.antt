use Rattle.std.proofs.Common.{◌≡◌, ap, ◌∙◌, arith, to_z, of_z, w64, sym, subst}
use Rattle.std.proofs.lemmas.Int.{to_z-of_z}
use Rattle.std.specs.Prelude.{Some}
use Rattle.name_order.specs.Relations.{order}
use Rattle.type_domain.specs.Values.{IsValue, of_int}
use Rattle.type_domain.proofs.values.of_int.Goals as goal

pub returns-clause-value : goal.returns-clause-value
returns-clause-value c = let same : to_z w64 (of_z w64 c.args.n) ≡ c.args.n = grind (arith, to_z-of_z) in ap Some c.names_with.ensures ∙ ap (of_int (order c.args.rel.now)) same

pub returns-clause-held : goal.returns-clause-held
returns-clause-held c = subst (IsValue (order c.args.rel.now)) (sym (returns-clause-value c)) ((c.given_law.ensures c.args.rel.now c.range.ensures).int c.args.n)
