use Rattle.std.proofs.Common.{◌+◌, drop, ap, sym, ◌∙◌, subst}
use Rattle.std.proofs.lemmas.Result.{err_from_is_err_and}
use Rattle.term_core.proofs.Turns.{turn}
use Rattle.assertion_normal.specs.Settling.{counting, in_order, settled, IsNoRoom}
use Rattle.assertion_normal.proofs.GrownLaws.{grown_self, grown_then}
use Rattle.assertion_normal.proofs.settling.all_settled.Goals as goal

pub loop-assertion-init : goal.loop-assertion-init
loop-assertion-init c = record {
  order = ap (λ all. in_order (settled c.args.names.now c.args.visible.now) (c.args.grammar.now, all) (counting c.args.list.now)) c.new-all.ensures;
  grown = grown_self c.args.visible.now c.args.grammar.now;
}

pub returns-in_err-all-clause-err : goal.returns-in_err-all-clause-err
returns-in_err-all-clause-err c =
    let gives = settled c.args.names.now c.args.visible.now in
    let list = c.args.list.now in
    let at = c.loop-assertion.assertion-index in
    let rest = drop (at + 1) list in
    let whole =
    sym (turn (λ ts. in_order gives (c.loop-assertion.grammar, c.loop-assertion.all) (counting ts)) list at c.assertion-item.result c.loop-assertion-test.true c.assertion-item.is)
    ∙ c.loop-assertion.invariant.order in
    let p = err_from_is_err_and c.from_residual.result c.from_residual.ensures.1 in
    rw (p.1, p.2) (subst (λ o. IsNoRoom o c.in_err-all.field-0.0) whole (c.in_err-all.ensures.err rest))

pub returns-in_err-all-clause-grown : goal.returns-in_err-all-clause-grown
returns-in_err-all-clause-grown c = grown_then c.args.visible.now c.args.grammar.now c.loop-assertion.grammar c.with_next.new.grammar c.loop-assertion.invariant.grown c.with_next.ensures.grown

pub loop-assertion-preserved : goal.loop-assertion-preserved
loop-assertion-preserved c =
    let gives = settled c.args.names.now c.args.visible.now in
    let list = c.args.list.now in
    let at = c.loop-assertion.assertion-index in
    let rest = drop (at + 1) list in
    record {
      order = sym (c.in_ok-all.ensures.ok rest)
          ∙ sym (turn (λ ts. in_order gives (c.loop-assertion.grammar, c.loop-assertion.all) (counting ts)) list at c.assertion-item.result c.loop-assertion-test.true c.assertion-item.is)
          ∙ c.loop-assertion.invariant.order;
      grown = grown_then c.args.visible.now c.args.grammar.now c.loop-assertion.grammar c.with_next.new.grammar c.loop-assertion.invariant.grown c.with_next.ensures.grown;
    }
