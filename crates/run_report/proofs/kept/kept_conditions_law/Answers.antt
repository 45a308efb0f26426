use Rattle.run_report.proofs.KeptConditions.{expands_kept}
use Rattle.run_report.proofs.kept.kept_conditions_law.Goals as goal

pub returns : goal.returns
returns c = expands_kept c.program_ranges_law.ensures
