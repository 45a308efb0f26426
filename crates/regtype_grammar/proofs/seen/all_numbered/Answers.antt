use Rattle.std.proofs.Common.{◌≡◌, ◌+◌, ◌++◌, true, ap, sym, ◌∙◌, subst, drop, map}
use Rattle.std.specs.List.{list_all}
use Rattle.std.proofs.lemmas.Bool.{and_parts}
use Rattle.term_core.proofs.Turns.{turn}
use Rattle.regtype_grammar.specs.TypeNames.{are_few, numbered}
use Rattle.regtype_grammar.proofs.SeenLaws.{all_numbered_turn}
use Rattle.regtype_grammar.proofs.seen.all_numbered.Goals as goal

pub numbered-requires : goal.numbered-requires
numbered-requires c =
    let firsts = c.args.firsts.now in
    let modules = c.args.modules.now in
    subst (λ v. are_few firsts v ≡ true) (sym c.as_slice.ensures)
    (and_parts (are_few firsts c.one-item.result.visible) _ (sym (turn (list_all (λ m. are_few firsts m.visible)) modules c.loop-one.one-index c.one-item.result c.loop-one-test.true c.one-item.is) ∙ c.loop-one.invariant.1)).0

pub loop-one-preserved : goal.loop-one-preserved
loop-one-preserved c =
    let firsts = c.args.firsts.now in
    let modules = c.args.modules.now in
    let rest = drop (c.loop-one.one-index + 1) modules in (
      all_numbered_turn firsts c.loop-one.seen c.push.new.self c.one-item.result c.in_ok-own.own rest _ c.in_ok-push.ensures.ok (c.in_ok-own.ensures ∙ ap (numbered firsts) c.as_slice.ensures)
          (sym (turn (λ ms. c.loop-one.seen ++ map (λ m. numbered firsts m.visible) ms) modules c.loop-one.one-index c.one-item.result c.loop-one-test.true c.one-item.is) ∙ c.loop-one.invariant.0),
      (and_parts (are_few firsts c.one-item.result.visible) _ (sym (turn (list_all (λ m. are_few firsts m.visible)) modules c.loop-one.one-index c.one-item.result c.loop-one-test.true c.one-item.is) ∙ c.loop-one.invariant.1)).1,
    )
