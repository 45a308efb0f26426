use Rattle.type_domain.proofs.Stored.{united_both}
use Rattle.type_domain.proofs.values.united.Goals as goal

pub returns-in-Some-names : goal.returns-in-Some-names
returns-in-Some-names c = united_both c.args.a.now c.args.b.now _ _ _ c.in-Some.is c.in-Some-names.is c.in_either.ensures
