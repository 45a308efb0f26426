use Rattle.std.proofs.Common.{◌≡◌, ℕ, ◌+◌, ◌<◌, ◌≤◌, map, length, sym, ap, ◌∙◌, arith}
use Rattle.std.specs.List.{list_any}
use Rattle.std.proofs.lemmas.List.{length-map}
use Rattle.term_core.specs.Terms.{depth_of, depth_step, greatest}
use Rattle.term_core.proofs.TermFolds.{fold_at_node}
use Rattle.prog_data.specs.Membership.{admits}
use Rattle.prop_check.specs.Belonging.{passes}
use Rattle.prop_check.proofs.Belonging.{rules_pass, unequal, weight, part_weighs, deepest_weighs, deepest}
use Rattle.prop_check.proofs.membership.+membership.Goals as goal

pub admits-belong_each-requires : goal.admits-belong_each-requires
admits-belong_each-requires t c =
    let names = length c.args.grammar.now.rules in
    let deepest = greatest (map depth_of c.as_slice.result.now) in
    let is : depth_of c.args.term.now ≡ deepest + 1 =
    fold_at_node ℕ depth_step c.args.term.now c.in-Node-term.name c.in-Node-term.parts c.in-Node-term.is ∙ ap (λ ts. greatest (map depth_of ts) + 1) (sym c.as_slice.ensures) in
    let less : weight deepest names + names + 1 < weight (depth_of c.args.term.now) names = part_weighs deepest (depth_of c.args.term.now) names (omega (arith, is)) in
    (omega (arith, less, c.decreases), tt)

pub admits-returns-in-Basic : goal.admits-returns-in-Basic
admits-returns-in-Basic t c = c.is_basic.ensures c.args.grammar.now ∙ ap (admits c.args.grammar.now c.args.term.now) (sym c.in-Basic.is)

pub belong_each-returns-then-terms-names : goal.belong_each-returns-then-terms-names
belong_each-returns-then-terms-names t c =
    let g = c.args.grammar.now in
    sym (unequal g (map (admits g) c.args.terms.now) c.args.names.now (λ e. c.if-terms-names.true (sym (length-map c.args.terms.now (admits g)) ∙ e)))

pub belong_each-belongs_within-requires : goal.belong_each-belongs_within-requires
belong_each-belongs_within-requires t c =
    let names = length c.args.grammar.now.rules in
    let part = depth_of c.index-terms-index.result in
    let whole = greatest (map depth_of c.args.terms.now) in
    let within : weight part names ≤ weight whole names = deepest_weighs part whole names (deepest c.args.terms.now c.loop-index.index c.index-terms-index.result c.loop-index-test.true c.index-terms-index.is) in
    (omega (arith, within, c.len.ensures, c.decreases), tt)

pub belongs_within-loop-rule-init : goal.belongs_within-loop-rule-init
belongs_within-loop-rule-init t c =
    ap (list_any (passes (admits c.args.grammar.now c.args.term.now) c.args.steps c.args.grammar.now)) c.rules_of-rule-items.ensures ∙ sym (rules_pass c.args.grammar.now (admits c.args.grammar.now c.args.term.now) c.args.steps c.args.name)
