use Rattle.goal_transfer.specs.Tables.{table_seen}
use Rattle.goal_transfer.specs.Statuses.{status_of, statuses_of}
use Rattle.discharger.proofs.Rows.{kind_fits, status_turn}
use Rattle.discharger.proofs.by_table.each_status.Goals as goal

pub status_of-requires-clause-kind : goal.status_of-requires-clause-kind
status_of-requires-clause-kind c =
    kind_fits c.args.program.now c.requires c.as_slice-cond-items.result.now c.loop-cond.cond-index c.cond-item.result c.as_slice-cond-items.ensures c.loop-cond-test.true c.cond-item.is

pub loop-cond-preserved : goal.loop-cond-preserved
loop-cond-preserved c =
    status_turn (status_of c.args.program.now (table_seen c.args.table.now)) c.loop-cond.made c.push.new.self c.in_ok-status_of.field-0 c.as_slice-cond-items.result.now c.loop-cond.cond-index c.cond-item.result
    (statuses_of c.args.program.now (table_seen c.args.table.now)) c.loop-cond-test.true c.cond-item.is c.in_ok-push.ensures.ok c.in_ok-status_of.ensures c.loop-cond.invariant
