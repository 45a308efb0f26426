use Rattle.std.proofs.Common.{◌≡◌, ◌+◌, drop, sym, subst, ◌∙◌}
use Rattle.std.proofs.lemmas.List.{at_drop_more}
use Rattle.std.proofs.lemmas.Result.{err_from_is_err_and}
use Rattle.program_link.specs.HeldPrograms.{IsNoRoom, HasNoProblem, draft_held}
use Rattle.program_link.proofs.MadeLaws.{each_mapped, preds_left}
use Rattle.program_link.proofs.preds.preds.Goals as goal

pub with_pred-requires : goal.with_pred-requires
with_pred-requires c = record {
  sound = each_mapped (HasNoProblem c.args.settings.now) (draft_held c.args.sources.now) c.args.preds.now c.loop-number.number
      (record { unit = 0; indicator = record { name = 0; arity = 0 } }) c.requires.sound c.loop-number-test.true;
}

pub returns-in_err-made-clause-err : goal.returns-in_err-made-clause-err
returns-in_err-made-clause-err c =
    let preds = c.args.preds.now in
    let n = c.loop-number.number in
    let whole =
    sym (at_drop_more (λ ps. preds_left c.args.sources.now c.args.settings.now c.args.normals.now c.loop-number.grammar c.loop-number.made ps n) preds n
    (record { unit = 0; indicator = record { name = 0; arity = 0 } }) c.loop-number-test.true)
    ∙ c.loop-number.invariant in
    let p = err_from_is_err_and c.from_residual.result c.from_residual.ensures.1 in
    rw (p.1, p.2) (subst (λ o. IsNoRoom o c.in_err-made.field-0.0) whole (c.in_err-made.ensures.err (drop (n + 1) preds)))
