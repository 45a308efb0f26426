use Rattle.std.proofs.Common.{◌≡◌, ◌≤◌, ◌<◌, ◌+◌, drop, length, ap, sym, ◌∙◌, subst, arith}
use Rattle.std.specs.List.{list_all}
use Rattle.std.proofs.lemmas.Bool.{and_parts}
use Rattle.term_core.proofs.Turns.{turn}
use Rattle.regtype_grammar.specs.TypeNames.{are_few}
use Rattle.regtype_grammar.specs.Grammars.{with_module, with_modules, AllFit}
use Rattle.regtype_grammar.proofs.RulingLaws.{modules_grow}
use Rattle.regtype_grammar.proofs.grammars.with_modules.Goals as goal

pub with_module-requires-clause-few : goal.with_module-requires-clause-few
with_module-requires-clause-few c =
    let firsts = c.args.firsts.now in
    let modules = c.args.modules.now in
    (and_parts (are_few firsts c.one-item.result.visible) _ (sym (turn (list_all (λ m. are_few firsts m.visible)) modules c.loop-one.one-index c.one-item.result c.loop-one-test.true c.one-item.is) ∙ c.loop-one.invariant.2)).0

pub loop-one-preserved : goal.loop-one-preserved
loop-one-preserved c =
    let firsts = c.args.firsts.now in
    let modules = c.args.modules.now in
    let rest = drop (c.loop-one.one-index + 1) modules in
    let after = with_module c.args.first firsts c.loop-one.making c.one-item.result in
    let next = turn (with_modules c.args.first firsts c.loop-one.making) modules c.loop-one.one-index c.one-item.result c.loop-one-test.true c.one-item.is in
    let fits = subst (AllFit c.args.first after) c.in-Some.is c.in_ok-with_module.ensures in (
      ap (λ m. with_modules c.args.first firsts m rest) fits.0 ∙ sym next ∙ c.loop-one.invariant.0,
      fits.1,
      (and_parts (are_few firsts c.one-item.result.visible) _
          (sym (turn (list_all (λ m. are_few firsts m.visible)) modules c.loop-one.one-index c.one-item.result c.loop-one-test.true c.one-item.is) ∙ c.loop-one.invariant.2)).1,
    )

pub returns-in-None : goal.returns-in-None
returns-in-None c =
    let firsts = c.args.firsts.now in
    let rest = drop (c.loop-one.one-index + 1) c.args.modules.now in
    let after = with_module c.args.first firsts c.loop-one.making c.one-item.result in
    let next = turn (with_modules c.args.first firsts c.loop-one.making) c.args.modules.now c.loop-one.one-index c.one-item.result c.loop-one-test.true c.one-item.is in
    let whole : length (with_modules c.args.first firsts after rest).further ≡ length (with_modules c.args.first firsts c.args.start c.args.modules.now).further = ap (λ m. length m.further) (sym next ∙ c.loop-one.invariant.0) in
    let grows : length after.further ≤ length (with_modules c.args.first firsts after rest).further = modules_grow c.args.first firsts after rest in
    let full : 512 < length after.further + c.args.first = subst (AllFit c.args.first after) c.in-None.is c.in_ok-with_module.ensures in
    omega (arith, whole, grows, full)
