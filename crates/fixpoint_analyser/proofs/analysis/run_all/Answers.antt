use Rattle.std.proofs.Common.{◌≡◌, ◌≤◌, length, map, get_or, ap, sym, subst, ◌∙◌}
use Rattle.prog_data.specs.Goals.{pred_of}
use Rattle.goal_transfer.specs.Tables.{row_seen}
use Rattle.fixpoint_analyser.proofs.Places.{pred_read}
use Rattle.fixpoint_analyser.proofs.Growth.{steps_itself, steps_over, first_stays}
use Rattle.fixpoint_analyser.proofs.ClauseSteps.{first_none, first_more, first_all}
use Rattle.fixpoint_analyser.proofs.analysis.run_all.Goals as goal

pub loop-clause-init : goal.loop-clause-init
loop-clause-init c = record {
  steps = steps_itself c.args.program.now (c.relied_law.ensures c.args.program.now c.requires.range).ordered c.args.rows.now c.args.exits.now c.args.waiting.now c.requires.under_way;
  settled = first_none c.args.program.now (map row_seen c.args.rows.now) c.args.waiting.now c.args.pred;
}

pub run_one-requires-clause-under_way : goal.run_one-requires-clause-under_way
run_one-requires-clause-under_way c = c.loop-clause.invariant.steps.under_way

pub run_one-requires-clause-reached : goal.run_one-requires-clause-reached
run_one-requires-clause-reached c = (c.loop-clause.invariant.steps.ascends.table c.args.pred).reached c.requires.reached

pub loop-clause-preserved : goal.loop-clause-preserved
loop-clause-preserved c =
    let program = c.args.program.now in
    let ordered = (c.relied_law.ensures c.args.program.now c.requires.range).ordered in
    let steps = c.in_ok-run_one.ensures.steps in record {
      steps = steps_over program ordered c.args.rows.now c.args.waiting.now c.loop-clause.rows c.loop-clause.exits c.loop-clause.waiting c.run_one.new.rows c.run_one.new.exits c.run_one.new.waiting c.loop-clause.invariant.steps steps;
      settled = first_more program (map row_seen c.run_one.new.rows) c.run_one.new.waiting c.args.pred c.loop-clause.clause
          (first_stays program ordered (map row_seen c.loop-clause.rows) c.loop-clause.waiting (map row_seen c.run_one.new.rows) c.run_one.new.waiting steps.ascends c.args.pred c.loop-clause.clause c.loop-clause.invariant.settled)
          c.in_ok-run_one.ensures.settled;
    }

pub returns-clause-settled : goal.returns-clause-settled
returns-clause-settled c =
    let at : pred_of c.args.program.now c.args.pred ≡ c.index-as_slice-pred.result =
    pred_read c.args.program.now.preds c.args.pred c.index-as_slice-pred.result c.requires.pred (subst (λ ps. c.index-as_slice-pred.result ≡ get_or ps c.args.pred c.index-as_slice-pred.result) c.as_slice.ensures c.index-as_slice-pred.is) in
    let count : c.len-count.result ≡ length (pred_of c.args.program.now c.args.pred).clauses = c.len-count.ensures ∙ ap (λ q. length q.clauses) (sym c.index-as_slice-pred.is ∙ sym at) in
    first_all c.args.program.now (map row_seen c.loop-clause.rows) c.loop-clause.waiting c.args.pred c.loop-clause.clause (subst (λ n. n ≤ c.loop-clause.clause) count c.loop-clause-test.false) c.loop-clause.invariant.settled
