use Rattle.run_report.proofs.LibraryNames.{no_close, close}
use Rattle.run_report.proofs.modules.before_close.Goals as goal

pub returns-in-None : goal.returns-in-None
returns-in-None c = no_close c.args.text.now c.in-None.ensures.cases

pub returns-in-Some : goal.returns-in-Some
returns-in-Some c = close c.args.text.now c.in-Some.name.now c.in-Some.ensures.cases.0 c.in-Some.ensures.cases.1
