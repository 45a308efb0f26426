use Rattle.std.proofs.Common.{◌≡◌, drop}
use Rattle.std.specs.List.{list_all}
use Rattle.prog_data.specs.declared.tables.Status.TheVariants.{Checked}
use Rattle.run_report.specs.Report.{has_status}
use Rattle.run_report.proofs.report.are_checked.Given as goal

abbrev pub invariant-loop-condition : goal.invariant-loop-condition
invariant-loop-condition l = list_all (has_status l.statuses Checked) (drop l.condition-index l.conditions) ≡ list_all (has_status l.statuses Checked) l.conditions
