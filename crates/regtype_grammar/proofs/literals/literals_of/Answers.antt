use Rattle.std.proofs.Common.{◌+◌, drop, map, sym, ◌∙◌}
use Rattle.std.proofs.lemmas.List.{at_drop_all}
use Rattle.term_core.proofs.Turns.{turn}
use Rattle.term_core.specs.declared.terms.Term.{out-Term}
use Rattle.term_core.specs.Operands.{all_said}
use Rattle.regtype_grammar.specs.TypeClauses.{literal_at}
use Rattle.regtype_grammar.proofs.SayingLoop.{put_before, said_turn, said_end, said_none}
use Rattle.regtype_grammar.proofs.literals.literals_of.Goals as goal

pub loop-term-preserved : goal.loop-term-preserved
loop-term-preserved c =
    said_turn c.loop-term.literals c.push.new.self c.in-Some.literal (literal_at (out-Term c.term-item.result.now)) (all_said (λ t. literal_at (out-Term t)) (map (λ t. t.now) (drop (c.loop-term.term-index + 1) c.args.terms.now)))
    (sym c.literal_at.ensures ∙ c.in-Some.is) c.in_ok-push-in-Some.ensures.ok
    ∙ sym (turn (λ ts. put_before c.loop-term.literals (all_said (λ t. literal_at (out-Term t)) (map (λ t. t.now) ts))) c.args.terms.now c.loop-term.term-index c.term-item.result c.loop-term-test.true c.term-item.is)
    ∙ c.loop-term.invariant

pub returns-in-None : goal.returns-in-None
returns-in-None c =
    said_none c.loop-term.literals (literal_at (out-Term c.term-item.result.now)) (all_said (λ t. literal_at (out-Term t)) (map (λ t. t.now) (drop (c.loop-term.term-index + 1) c.args.terms.now))) (sym c.literal_at.ensures ∙ c.in-None.is)
    ∙ sym (turn (λ ts. put_before c.loop-term.literals (all_said (λ t. literal_at (out-Term t)) (map (λ t. t.now) ts))) c.args.terms.now c.loop-term.term-index c.term-item.result c.loop-term-test.true c.term-item.is)
    ∙ c.loop-term.invariant

pub returns : goal.returns
returns c =
    said_end c.loop-term.literals
    ∙ sym (at_drop_all (λ ts. put_before c.loop-term.literals (all_said (λ t. literal_at (out-Term t)) (map (λ t. t.now) ts))) c.args.terms.now c.loop-term.term-index c.loop-term-test.false)
    ∙ c.loop-term.invariant
