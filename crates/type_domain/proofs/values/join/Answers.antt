use Rattle.std.proofs.Common.{sym, subst}
use Rattle.prog_data.specs.Values.{seen}
use Rattle.type_domain.specs.Values.{IsValue}
use Rattle.type_domain.proofs.Given.{join_given}
use Rattle.type_domain.proofs.Stored.{joined_both}
use Rattle.type_domain.proofs.values.join.Goals as goal

pub returns-in-Some-names-clause-value : goal.returns-in-Some-names-clause-value
returns-in-Some-names-clause-value c = joined_both c.args.a.now c.args.b.now _ _ _ c.in-Some.is c.in-Some-names.is c.in_both.ensures

pub returns-in-Some-names-clause-held : goal.returns-in-Some-names-clause-held
returns-in-Some-names-clause-held c = λ o u v. subst (IsValue o) (sym (returns-in-Some-names-clause-value c)) (join_given o (seen c.args.a.now) (seen c.args.b.now) u v)
