use Rattle.dcg_expand.proofs.RangeLaws.{given_stays}
use Rattle.dcg_expand.proofs.rules.expand_rule.Goals as goal

pub returns-clause-in_range : goal.returns-clause-in_range
returns-clause-in_range c = given_stays c.clause_of.result c.args.rule.now c.clause_of.ensures
