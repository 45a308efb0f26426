use Rattle.std.proofs.Common.{◌≡◌, ◌+◌, None, drop, sym, subst, ◌∙◌}
use Rattle.std.proofs.lemmas.List.{at_drop_more}
use Rattle.std.proofs.lemmas.Result.{err_from_is_err_and}
use Rattle.assertion_normal.specs.Settling.{in_order}
use Rattle.body_code.specs.Clauses.{problem_of}
use Rattle.program_link.specs.Programs.{clause_made}
use Rattle.program_link.specs.HeldPrograms.{IsNoRoom, items_at}
use Rattle.program_link.proofs.MadeLaws.{each_at}
use Rattle.program_link.proofs.preds.clauses_at.Goals as goal

pub with_clause_at-requires : goal.with_clause_at-requires
with_clause_at-requires c = record {
  sound = each_at (λ s. problem_of c.args.setting.now.scope s.term ≡ None) c.args.clauses.now c.args.places.now c.loop-place.place-index 0 c.requires.sound c.loop-place-test.true;
}

pub returns-in_err-made-clause-err : goal.returns-in_err-made-clause-err
returns-in_err-made-clause-err c =
    let gives = clause_made c.args.setting.now in
    let clauses = c.args.clauses.now in
    let places = c.args.places.now in
    let at = c.loop-place.place-index in
    let whole = sym (at_drop_more (λ ns. in_order gives (c.loop-place.grammar, c.loop-place.made) (items_at clauses ns)) places at 0 c.loop-place-test.true) ∙ c.loop-place.invariant in
    let p = err_from_is_err_and c.from_residual.result c.from_residual.ensures.1 in
    rw (p.1, p.2) (subst (λ o. IsNoRoom o c.in_err-made.field-0.0) whole (c.in_err-made.ensures.err (items_at clauses (drop (at + 1) places))))
