use Rattle.std.proofs.Common.{◌∙◌, map}
use Rattle.term_core.specs.Terms.{occurrences}
use Rattle.regtype_grammar.proofs.OnceLaws.{by_set}
use Rattle.regtype_grammar.proofs.clauses.is_regular.Goals as goal

pub returns : goal.returns
returns c =
    by_set (λ s. s.keys) c.in_ok-set.set (occurrences c.args.argument.now) (map (λ l. l.variable) c.args.literals.now) c.as_slice.result.now c.as_slice-2.result.now c.in_ok-test.test
    (c.as_slice.ensures ∙ c.in_ok-variables.ensures) (c.as_slice-2.ensures ∙ c.in_ok-bound.ensures) c.in_ok-set.ensures c.in_ok-test.ensures
