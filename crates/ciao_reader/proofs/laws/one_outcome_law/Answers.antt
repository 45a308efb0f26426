use Rattle.ciao_reader.proofs.OneText.{one_source, no_fault, one_fault}
use Rattle.ciao_reader.proofs.laws.one_outcome_law.Goals as goal

pub returns-clause-sentences : goal.returns-clause-sentences
returns-clause-sentences c = one_source

pub returns-clause-none : goal.returns-clause-none
returns-clause-none c = no_fault

pub returns-clause-one : goal.returns-clause-one
returns-clause-one c = one_fault
