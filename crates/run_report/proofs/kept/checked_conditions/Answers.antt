use Rattle.run_report.specs.Expansion.{conds_of}
use Rattle.run_report.proofs.Loops.{next_parts}
use Rattle.run_report.proofs.kept.checked_conditions.Goals as goal

pub loop-check-preserved : goal.loop-check-preserved
loop-check-preserved c =
    next_parts conds_of c.as_slice-check-items.result.now c.loop-check.check-index c.check-item.result c.loop-check.conditions c.push_conditions.new.conditions
    c.loop-check-test.true c.check-item.is c.in_ok-push_conditions.ensures c.loop-check.invariant
