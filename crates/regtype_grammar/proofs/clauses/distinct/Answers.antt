use Rattle.std.proofs.Common.{◌≡◌, ◌+◌, ◌++◌, true, get_or, drop, ap, sym, ◌∙◌, subst}
use Rattle.std.proofs.lemmas.List.{at_drop_more, at_drop_all}
use Rattle.regtype_grammar.specs.TypeClauses.{are_once}
use Rattle.regtype_grammar.proofs.OnceLaws.{twice, once_more, set_turn}
use Rattle.regtype_grammar.proofs.PartLoops.{with_nothing}
use Rattle.regtype_grammar.proofs.clauses.distinct.Goals as goal

pub loop-number-init : goal.loop-number-init
loop-number-init c = (ap (λ ks. ks ++ c.args.numbers.now) c.new-set.ensures.empty, ap are_once c.new-set.ensures.empty)

pub add_new-requires : goal.add_new-requires
add_new-requires c = sym c.contains.ensures ∙ c.if-contains.false

pub returns-then-contains : goal.returns-then-contains
returns-then-contains c =
    let numbers = c.args.numbers.now in
    let keys = c.loop-number.set.keys in
    let whole = sym (at_drop_more (λ vs. keys ++ vs) numbers c.loop-number.number-index 0 c.loop-number-test.true) ∙ c.loop-number.invariant.0 in
    ap are_once (sym whole) ∙ twice keys (get_or numbers c.loop-number.number-index 0) (drop (c.loop-number.number-index + 1) numbers) (sym c.contains.ensures ∙ c.if-contains.true)

pub loop-number-preserved : goal.loop-number-preserved
loop-number-preserved c =
    let numbers = c.args.numbers.now in
    let keys = c.loop-number.set.keys in
    let v = get_or numbers c.loop-number.number-index 0 in
    let rest = drop (c.loop-number.number-index + 1) numbers in (
      set_turn keys c.add_new.new.set.keys v rest c.in_ok-add_new.ensures.0 ∙ sym (at_drop_more (λ vs. keys ++ vs) numbers c.loop-number.number-index 0 c.loop-number-test.true) ∙ c.loop-number.invariant.0,
      subst (λ ks. are_once ks ≡ true) (sym c.in_ok-add_new.ensures.0) (once_more keys v c.loop-number.invariant.1 c.in_ok-add_new.ensures.1),
    )

pub returns : goal.returns
returns c =
    let numbers = c.args.numbers.now in
    let keys = c.loop-number.set.keys in
    let all = with_nothing keys ∙ sym (at_drop_all (λ vs. keys ++ vs) numbers c.loop-number.number-index c.loop-number-test.false) ∙ c.loop-number.invariant.0 in
    (all, subst (λ ks. are_once ks ≡ true) all c.loop-number.invariant.1)
