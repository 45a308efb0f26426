use Rattle.ciao_reader.proofs.RangedSentences.{sentences_in_range, goals_in_range}
use Rattle.ciao_reader.proofs.laws.in_range_law.Goals as goal

pub returns-clause-sentences : goal.returns-clause-sentences
returns-clause-sentences c = sentences_in_range c.ranges_law.ensures c.named_tokens_law.ensures

pub returns-clause-goals : goal.returns-clause-goals
returns-clause-goals c = goals_in_range c.ranges_law.ensures c.named_tokens_law.ensures
