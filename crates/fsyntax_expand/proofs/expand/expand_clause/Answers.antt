use Rattle.fsyntax_expand.proofs.RangeLaws.{given_stay}
use Rattle.fsyntax_expand.proofs.expand.expand_clause.Goals as goal

pub returns-clause-in_range : goal.returns-clause-in_range
returns-clause-in_range c = given_stay c.clauses_of.result c.args.clause.now c.clauses_of.ensures
