use Rattle.std.proofs.Common.{◌≡◌, drop}
use Rattle.std.specs.List.{list_any}
use Rattle.prog_data.specs.declared.tables.Status.TheVariants.{False}
use Rattle.run_report.specs.Report.{has_status}
use Rattle.run_report.proofs.report.has_false.Given as goal

abbrev pub invariant-loop-condition : goal.invariant-loop-condition
invariant-loop-condition l = list_any (has_status l.statuses False) (drop l.condition-index l.conditions) ≡ list_any (has_status l.statuses False) l.conditions
