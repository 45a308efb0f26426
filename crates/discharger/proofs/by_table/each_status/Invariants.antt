use Rattle.std.proofs.Common.{◌≡◌, ◌++◌, drop, map}
use Rattle.goal_transfer.specs.Tables.{table_seen}
use Rattle.goal_transfer.specs.Statuses.{status_of, statuses_of}
use Rattle.discharger.proofs.by_table.each_status.Given as goal

abbrev pub invariant-loop-cond : goal.invariant-loop-cond
invariant-loop-cond l = l.made ++ map (status_of l.program (table_seen l.table)) (drop l.cond-index l.cond-items) ≡ statuses_of l.program (table_seen l.table)
