use Rattle.ciao_modules.proofs.OneOutcome.{one_load, no_load_refused, one_load_refusal}
use Rattle.ciao_modules.proofs.laws.one_load_law.Goals as goal

pub returns-clause-one : goal.returns-clause-one
returns-clause-one c = one_load c.one_outcome_law.ensures.sentences c.one_outcome_law.ensures.none c.one_outcome_law.ensures.one

pub returns-clause-none : goal.returns-clause-none
returns-clause-none c = no_load_refused c.one_outcome_law.ensures.sentences c.one_outcome_law.ensures.none c.one_outcome_law.ensures.one

pub returns-clause-refusal : goal.returns-clause-refusal
returns-clause-refusal c = one_load_refusal c.one_outcome_law.ensures.sentences c.one_outcome_law.ensures.none c.one_outcome_law.ensures.one
