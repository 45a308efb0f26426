use Rattle.regtype_grammar.proofs.OnceLaws.{some_once}
use Rattle.regtype_grammar.proofs.clauses.are_once.Goals as goal

pub returns : goal.returns
returns c = some_once (λ s. s.keys) c.in_ok-set.set c.args.numbers.now c.is_some.result c.is_some.ensures c.in_ok-set.ensures
