use Rattle.ciao_tokens.proofs.OneAnswer.{one_fault, no_fault}
use Rattle.ciao_tokens.proofs.laws.one_fault_law.Goals as goal

pub returns-clause-one : goal.returns-clause-one
returns-clause-one c = one_fault

pub returns-clause-none : goal.returns-clause-none
returns-clause-none c = no_fault
