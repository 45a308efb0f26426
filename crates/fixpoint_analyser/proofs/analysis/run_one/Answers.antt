use Rattle.std.proofs.Common.{◌≡◌, map, ap, sym, subst, ◌∙◌}
use Rattle.prog_data.specs.Values.{seen}
use Rattle.prog_data.specs.Goals.{pred_of}
use Rattle.name_order.specs.Relations.{order}
use Rattle.goal_transfer.specs.States.{exits_seen, effect_seen}
use Rattle.goal_transfer.specs.Tables.{row_seen, facts_of, clause_effect}
use Rattle.fixpoint_analyser.specs.ReliedOn.{ReliedOn}
use Rattle.fixpoint_analyser.specs.Progress.{IsFit}
use Rattle.fixpoint_analyser.proofs.RowLaws.{row_at}
use Rattle.fixpoint_analyser.proofs.Places.{got_contains, got_there}
use Rattle.fixpoint_analyser.proofs.CallAnswers.{row_in}
use Rattle.fixpoint_analyser.proofs.ClauseSteps.{effect_by, clause_fits, clause_settled}
use Rattle.fixpoint_analyser.proofs.analysis.run_one.Goals as goal

pub bounds-rows-pred : goal.bounds-rows-pred
bounds-rows-pred c = row_in c.args.program.now c.args.rows.now c.args.exits.now c.args.waiting.now c.requires.under_way c.args.pred c.requires.pred

pub take_effect-requires-clause-effect : goal.take_effect-requires-clause-effect
take_effect-requires-clause-effect c =
    let program = c.args.program.now in
    let rows = map row_seen c.args.rows.now in
    let relied : ReliedOn c.args.program.now = c.relied_law.ensures program c.requires.range in
    let found = got_there (pred_of program c.args.pred).clauses c.args.clause c.requires.clause in
    let in_rows = row_in program c.args.rows.now c.args.exits.now c.args.waiting.now c.requires.under_way c.args.pred c.requires.pred in
    let entry : map seen c.as_slice-entry.result.now ≡ (facts_of rows c.args.pred).entry =
    ap (map seen) (c.as_slice-entry.ensures ∙ ap (λ r. r.entry) (sym c.index-rows-pred.is)) ∙ ap (λ f. f.entry) (sym (row_at c.args.rows.now c.args.pred c.index-rows-pred.result in_rows c.index-rows-pred.is)) in
    let read : effect_seen c.in_ok-effect.effect ≡ clause_effect program (order program.grammar) rows c.args.pred found.0 =
    effect_by program rows c.args.pred found.0 c.args.rel.now c.requires.grammar (exits_seen c.args.exits.now) (map seen c.as_slice-entry.result.now) (effect_seen c.in_ok-effect.effect) c.requires.under_way.exits entry
    (c.in_ok-effect.ensures found.0 found.1) in
    subst (IsFit program c.args.pred) (sym read)
    (clause_fits program relied rows c.requires.under_way.table c.requires.under_way.below c.args.pred found.0 c.requires.pred c.requires.reached (got_contains (pred_of program c.args.pred).clauses c.args.clause found.0 found.1))

pub returns : goal.returns
returns c = record {
  steps = c.in_ok-take_effect.ensures.steps;
  settled = λ clause got.
      let program = c.args.program.now in
      let rows = map row_seen c.args.rows.now in
      let in_rows = row_in program c.args.rows.now c.args.exits.now c.args.waiting.now c.requires.under_way c.args.pred c.requires.pred in
      let entry : map seen c.as_slice-entry.result.now ≡ (facts_of rows c.args.pred).entry =
      ap (map seen) (c.as_slice-entry.ensures ∙ ap (λ r. r.entry) (sym c.index-rows-pred.is)) ∙ ap (λ f. f.entry) (sym (row_at c.args.rows.now c.args.pred c.index-rows-pred.result in_rows c.index-rows-pred.is)) in
      clause_settled program rows (map row_seen c.take_effect.new.rows) c.take_effect.new.waiting c.args.pred clause (effect_seen c.in_ok-effect.effect) (got_contains (pred_of program c.args.pred).clauses c.args.clause clause got)
      (effect_by program rows c.args.pred clause c.args.rel.now c.requires.grammar (exits_seen c.args.exits.now) (map seen c.as_slice-entry.result.now) (effect_seen c.in_ok-effect.effect) c.requires.under_way.exits entry (c.in_ok-effect.ensures clause got))
      c.in_ok-take_effect.ensures.reached c.in_ok-take_effect.ensures.had (c.in_ok-take_effect.ensures.steps.ascends.others c.args.pred);
}
