use Rattle.fixpoint_analyser.proofs.WaitLaws.{idle_there}
use Rattle.fixpoint_analyser.proofs.waiting.is_idle.Goals as goal

pub returns-in-Some : goal.returns-in-Some
returns-in-Some c = idle_there c.args.flags.now c.args.pred c.in-Some.flag.now c.in-Some.ensures.lookup.3.0 c.in-Some.ensures.lookup.1
