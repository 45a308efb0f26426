use Rattle.std.proofs.Common.{◌≡◌, ◌<◌, ◌+◌, ◌++◌, drop, length, sym, ◌∙◌, arith}
use Rattle.std.proofs.lemmas.List.{at_drop_all}
use Rattle.term_core.proofs.Turns.{turn}
use Rattle.regtype_grammar.specs.TypeNames.{count_types, starts}
use Rattle.regtype_grammar.proofs.PartLoops.{with_nothing}
use Rattle.regtype_grammar.proofs.SeenLaws.{starts_turn}
use Rattle.regtype_grammar.proofs.starts.first_names.Goals as goal

pub loop-one-preserved : goal.loop-one-preserved
loop-one-preserved c =
    let modules = c.args.modules.now in
    let rest = drop (c.loop-one.one-index + 1) modules in
    let next = turn (λ ms. c.loop-one.firsts ++ starts c.loop-one.next ms) modules c.loop-one.one-index c.one-item.result c.loop-one-test.true c.one-item.is in
    let less : count_types (drop c.loop-one.one-index modules) ≡ length c.one-item.result.types + count_types rest = turn count_types modules c.loop-one.one-index c.one-item.result c.loop-one-test.true c.one-item.is in
    let whole : c.loop-one.next + count_types (drop c.loop-one.one-index modules) ≡ count_types modules + 10 = c.loop-one.invariant.1 in
    let count : c.len.result ≡ length c.one-item.result.types = c.len.ensures in
    let after : c.in-Some.after ≡ c.loop-one.next + c.len.result = c.in-Some.ensures.0 in (
      starts_turn c.loop-one.firsts c.push.new.self c.loop-one.next c.in-Some.after c.len.result c.one-item.result rest _ c.in_ok-push.ensures.ok after count (sym next ∙ c.loop-one.invariant.0),
      omega (arith, less, whole, count, after),
      c.in-Some.ensures.1,
    )

pub returns-in-None : goal.returns-in-None
returns-in-None c =
    let modules = c.args.modules.now in
    let rest = drop (c.loop-one.one-index + 1) modules in
    let less : count_types (drop c.loop-one.one-index modules) ≡ length c.one-item.result.types + count_types rest = turn count_types modules c.loop-one.one-index c.one-item.result c.loop-one-test.true c.one-item.is in
    let whole : c.loop-one.next + count_types (drop c.loop-one.one-index modules) ≡ count_types modules + 10 = c.loop-one.invariant.1 in
    let count : c.len.result ≡ length c.one-item.result.types = c.len.ensures in
    let full : 512 < c.loop-one.next + c.len.result = c.in-None.ensures in
    omega (arith, less, whole, count, full)

pub returns : goal.returns
returns c =
    let modules = c.args.modules.now in
    let none : count_types (drop c.loop-one.one-index modules) ≡ 0 = at_drop_all count_types modules c.loop-one.one-index c.loop-one-test.false in
    let whole : c.loop-one.next + count_types (drop c.loop-one.one-index modules) ≡ count_types modules + 10 = c.loop-one.invariant.1 in (
      with_nothing c.loop-one.firsts
          ∙ sym (at_drop_all (λ ms. c.loop-one.firsts ++ starts c.loop-one.next ms) modules c.loop-one.one-index c.loop-one-test.false)
          ∙ c.loop-one.invariant.0,
      omega (arith, none, whole),
      c.loop-one.invariant.2,
    )
