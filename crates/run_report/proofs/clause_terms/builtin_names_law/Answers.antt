use Rattle.run_report.proofs.BuiltinNames.{names_mean}
use Rattle.run_report.proofs.clause_terms.builtin_names_law.Goals as goal

pub returns : goal.returns
returns c = names_mean c.control_law.ensures
