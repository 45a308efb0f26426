use Rattle.run_report.proofs.LibraryNames.{no_front, front}
use Rattle.run_report.proofs.modules.behind_front.Goals as goal

pub returns-in-None : goal.returns-in-None
returns-in-None c = no_front c.args.text.now c.in-None.ensures.cases

pub returns-in-Some : goal.returns-in-Some
returns-in-Some c = front c.args.text.now c.in-Some.rest.now c.in-Some.ensures.cases.0 c.in-Some.ensures.cases.1
