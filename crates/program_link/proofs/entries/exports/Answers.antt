use Rattle.std.proofs.Common.{◌≡◌, suc, ◌+◌, ◌++◌, ◌∷◌, [], cond, drop, get_or, ap, sym, ◌∙◌, append_assoc, arith}
use Rattle.std.proofs.lemmas.List.{at_drop_more}
use Rattle.program_link.specs.HeldPrograms.{is_main_held, exports_held}
use Rattle.program_link.specs.declared.drafts.UnitPred.{UnitPred}
use Rattle.program_link.proofs.entries.exports.Goals as goal

pub loop-number-preserved : goal.loop-number-preserved
loop-number-preserved c =
    let sources = c.args.sources.now in
    let preds = c.args.preds.now in
    let n = c.loop-number.number in
    let none : UnitPred = record { unit = 0; indicator = record { name = 0; arity = 0 } } in
    let old = c.loop-number.exports in
    let own = cond (is_main_held sources (get_or preds n none)) (n ∷ []) [] in
    let same : n + 1 ≡ suc n = omega arith in
    ap (λ es. es ++ exports_held sources (n + 1) (drop (n + 1) preds)) (c.in_ok-add_where.ensures ∙ ap (λ b. old ++ cond b (n ∷ []) []) c.is_main_export-wanted.ensures)
    ∙ append_assoc old own (exports_held sources (n + 1) (drop (n + 1) preds))
    ∙ ap (λ k. old ++ (own ++ exports_held sources k (drop (n + 1) preds))) same
    ∙ ap (λ es. old ++ es) (sym (at_drop_more (exports_held sources n) preds n none c.loop-number-test.true))
    ∙ c.loop-number.invariant
