use Rattle.std.proofs.Common.{map, ap, ◌∙◌}
use Rattle.term_core.specs.declared.terms.Term.{out-Term}
use Rattle.term_core.specs.Operands.{all_said}
use Rattle.regtype_grammar.specs.TypeClauses.{literal_at}
use Rattle.regtype_grammar.proofs.literals.joined_literals.Goals as goal

pub returns : goal.returns
returns c =
    c.in_ok-literals.ensures ∙ ap (λ ts. all_said (λ t. literal_at (out-Term t)) (map (λ t. t.now) ts)) c.as_slice.ensures ∙ ap (all_said (λ t. literal_at (out-Term t))) c.in_ok-terms.ensures
