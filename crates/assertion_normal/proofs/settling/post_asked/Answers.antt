use Rattle.assertion_normal.proofs.GrownLaws.{grown_self}
use Rattle.assertion_normal.proofs.settling.post_asked.Goals as goal

pub returns-in-None-clause-grown : goal.returns-in-None-clause-grown
returns-in-None-clause-grown c = grown_self c.args.visible.now c.args.grammar.now
