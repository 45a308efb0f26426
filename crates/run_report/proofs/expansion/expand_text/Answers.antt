use Rattle.run_report.specs.Expansion.{pred_lines}
use Rattle.run_report.proofs.Loops.{next_parts}
use Rattle.run_report.proofs.expansion.expand_text.Goals as goal

pub loop-pred-preserved : goal.loop-pred-preserved
loop-pred-preserved c =
    next_parts (pred_lines c.args.program.now) c.as_slice-pred-items.result.now c.loop-pred.pred-index c.pred-item.result c.loop-pred.lines c.push_pred_lines.new.lines
    c.loop-pred-test.true c.pred-item.is c.in_ok-push_pred_lines.ensures c.loop-pred.invariant
