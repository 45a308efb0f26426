use Rattle.std.proofs.Common.{◌+◌, get_or, drop, ap, sym, ◌∙◌}
use Rattle.std.specs.Prelude.{None}
use Rattle.std.proofs.lemmas.List.{at_drop_more}
use Rattle.assertion_normal.specs.Properties.{asked}
use Rattle.assertion_normal.specs.Settling.{in_order}
use Rattle.assertion_normal.proofs.GrownLaws.{grown_self, grown_then}
use Rattle.assertion_normal.proofs.OrderLaws.{order_next}
use Rattle.assertion_normal.proofs.settling.all_asked.Goals as goal

pub loop-written-init : goal.loop-written-init
loop-written-init c = record {
  order = ap (λ props. in_order (asked c.args.visible.now) (c.args.grammar.now, props) c.args.list.now) c.new-props.ensures;
  grown = grown_self c.args.visible.now c.args.grammar.now;
}

pub returns-in_err-prop-clause-grown : goal.returns-in_err-prop-clause-grown
returns-in_err-prop-clause-grown c = grown_then c.args.visible.now c.args.grammar.now c.loop-written.grammar c.asked.new.grammar c.loop-written.invariant.grown c.asked.ensures.grown

pub returns-in_err-push-clause-grown : goal.returns-in_err-push-clause-grown
returns-in_err-push-clause-grown c = grown_then c.args.visible.now c.args.grammar.now c.loop-written.grammar c.asked.new.grammar c.loop-written.invariant.grown c.asked.ensures.grown

pub loop-written-preserved : goal.loop-written-preserved
loop-written-preserved c =
    let gives = asked c.args.visible.now in
    let list = c.args.list.now in
    let at = c.loop-written.written-index in
    let one = get_or list at (record { property = 0; arg = 0; element = None }) in
    let rest = drop (at + 1) list in
    record {
      order = ap (λ props. in_order gives (c.asked.new.grammar, props) rest) c.in_ok-push.ensures.ok
          ∙ sym (order_next gives (c.loop-written.grammar, c.loop-written.props) one rest (c.asked.new.grammar, c.in_ok-prop.prop) c.in_ok-prop.ensures.ok)
          ∙ sym (at_drop_more (in_order gives (c.loop-written.grammar, c.loop-written.props)) list at (record { property = 0; arg = 0; element = None }) c.loop-written-test.true)
          ∙ c.loop-written.invariant.order;
      grown = grown_then c.args.visible.now c.args.grammar.now c.loop-written.grammar c.asked.new.grammar c.loop-written.invariant.grown c.asked.ensures.grown;
    }
