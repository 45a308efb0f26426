use Rattle.assertion_normal.proofs.GrownLaws.{grown_self}
use Rattle.assertion_normal.proofs.settling.with_next.Goals as goal

pub returns-then-not-counts-clause-grown : goal.returns-then-not-counts-clause-grown
returns-then-not-counts-clause-grown c = grown_self c.args.visible.now c.args.grammar.now
