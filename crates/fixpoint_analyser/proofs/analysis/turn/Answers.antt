use Rattle.std.proofs.Common.{sym, ap, ◌∙◌, true≢false}
use Rattle.fixpoint_analyser.proofs.RowLaws.{row_at}
use Rattle.fixpoint_analyser.proofs.CallAnswers.{row_in}
use Rattle.fixpoint_analyser.proofs.Growth.{steps_itself}
use Rattle.fixpoint_analyser.proofs.analysis.turn.Goals as goal

pub bounds-rows-pred : goal.bounds-rows-pred
bounds-rows-pred c = row_in c.args.program.now c.args.rows.now c.args.exits.now c.args.waiting.now c.requires.under_way c.args.pred c.requires.pred

pub returns-then-not-reached : goal.returns-then-not-reached
returns-then-not-reached c =
    let in_rows = row_in c.args.program.now c.args.rows.now c.args.exits.now c.args.waiting.now c.requires.under_way c.args.pred c.requires.pred in
    let row = row_at c.args.rows.now c.args.pred c.index-rows-pred.result in_rows c.index-rows-pred.is in record {
      steps = steps_itself c.args.program.now (c.relied_law.ensures c.args.program.now c.requires.range).ordered c.args.rows.now c.args.exits.now c.args.waiting.now c.requires.under_way;
      settled = λ r. absurd (true≢false (sym r ∙ ap (λ f. f.reached) row ∙ ap (λ r. r.reached) c.index-rows-pred.is ∙ c.if-not-reached.true));
    }

pub run_all-requires-clause-reached : goal.run_all-requires-clause-reached
run_all-requires-clause-reached c =
    let in_rows = row_in c.args.program.now c.args.rows.now c.args.exits.now c.args.waiting.now c.requires.under_way c.args.pred c.requires.pred in
    ap (λ f. f.reached) (row_at c.args.rows.now c.args.pred c.index-rows-pred.result in_rows c.index-rows-pred.is) ∙ ap (λ r. r.reached) c.index-rows-pred.is ∙ c.if-not-reached.false
