use Rattle.run_report.proofs.LibraryNames.{missing}
use Rattle.run_report.proofs.modules.number_of.Goals as goal

pub returns-in-Err : goal.returns-in-Err
returns-in-Err c = missing c.args.name.now c.in-Err.ensures.cases.0 c.args.names.now c.len.ensures.utf8
