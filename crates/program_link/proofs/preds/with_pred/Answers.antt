use Rattle.std.proofs.Common.{◌≡◌, suc, ◌+◌, ◌∷◌, map, drop, None, ap, sym, subst, ◌∙◌, arith}
use Rattle.std.proofs.lemmas.Option.{slice_get_past}
use Rattle.assertion_normal.specs.Settling.{in_order}
use Rattle.program_link.specs.Programs.{pred_made, beside}
use Rattle.program_link.specs.HeldPrograms.{draft_held}
use Rattle.program_link.proofs.ProgramLaws.{AtFront, at_front, beside_none}
use Rattle.program_link.proofs.preds.with_pred.Goals as goal

pub returns-in-None-clause-ok : goal.returns-in-None-clause-ok
returns-in-None-clause-ok c rest =
    let gives = pred_made c.args.settings.now in
    let normals = c.args.normals.now in
    let n = c.args.number in
    let drafts = map (draft_held c.args.sources.now) rest in
    let both : AtFront None (drop n normals) (drop (suc n) normals) =
    subst (λ o. AtFront o (drop n normals) (drop (suc n) normals)) (slice_get_past normals n c.in-None.ensures.lookup.3) (at_front normals n) in
    let same : suc n ≡ n + 1 = omega arith in
    ap (λ ms. in_order gives (c.args.grammar.now, c.args.made) (beside (draft_held c.args.sources.now c.args.pred ∷ drafts) ms)) both.0
    ∙ ap (in_order gives (c.args.grammar.now, c.args.made)) (sym (beside_none drafts) ∙ ap (beside drafts) (sym both.1 ∙ ap (λ k. drop k normals) same))
