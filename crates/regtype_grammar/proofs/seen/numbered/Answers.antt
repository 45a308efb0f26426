use Rattle.std.proofs.Common.{◌+◌, ◌++◌, get_or, drop, sym, ◌∙◌}
use Rattle.std.proofs.lemmas.List.{at_drop_more}
use Rattle.regtype_grammar.specs.declared.modules.SeenType.{SeenType}
use Rattle.regtype_grammar.specs.TypeNames.{are_few, numbered}
use Rattle.regtype_grammar.proofs.SeenLaws.{numbered_turn, few_now, few_later}
use Rattle.regtype_grammar.proofs.seen.numbered.Goals as goal

abbrev no_type : SeenType
no_type = record { name = 0; «module» = 0; position = 0 }

pub number_of-requires : goal.number_of-requires
number_of-requires c =
    let firsts = c.args.firsts.now in
    let visible = c.args.visible.now in
    few_now firsts (get_or visible c.loop-one.one-index no_type) (drop (c.loop-one.one-index + 1) visible)
    (sym (at_drop_more (are_few firsts) visible c.loop-one.one-index no_type c.loop-one-test.true) ∙ c.loop-one.invariant.1)

pub loop-one-preserved : goal.loop-one-preserved
loop-one-preserved c =
    let firsts = c.args.firsts.now in
    let visible = c.args.visible.now in
    let one = get_or visible c.loop-one.one-index no_type in
    let rest = drop (c.loop-one.one-index + 1) visible in (
      numbered_turn firsts c.loop-one.seen c.push.new.self one rest c.number_of.result _ c.in_ok-push.ensures.ok c.number_of.ensures
          (sym (at_drop_more (λ vs. c.loop-one.seen ++ numbered firsts vs) visible c.loop-one.one-index no_type c.loop-one-test.true) ∙ c.loop-one.invariant.0),
      few_later firsts one rest (sym (at_drop_more (are_few firsts) visible c.loop-one.one-index no_type c.loop-one-test.true) ∙ c.loop-one.invariant.1),
    )
