use Rattle.std.proofs.Common.{◌≡◌, drop, map}
use Rattle.term_core.specs.declared.terms.Term.{out-Term}
use Rattle.term_core.specs.Operands.{all_said}
use Rattle.regtype_grammar.specs.TypeClauses.{literal_at}
use Rattle.regtype_grammar.proofs.SayingLoop.{put_before}
use Rattle.regtype_grammar.proofs.literals.literals_of.Given as goal

abbrev pub invariant-loop-term : goal.invariant-loop-term
invariant-loop-term l =
    put_before l.literals (all_said (λ t. literal_at (out-Term t)) (map (λ t. t.now) (drop l.term-index l.terms))) ≡ all_said (λ t. literal_at (out-Term t)) (map (λ t. t.now) l.terms)
