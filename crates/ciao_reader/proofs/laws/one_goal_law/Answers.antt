use Rattle.ciao_reader.proofs.OneText.{one_goal_text, no_goal_fault_text, one_goal_fault_text}
use Rattle.ciao_reader.proofs.laws.one_goal_law.Goals as goal

pub returns-clause-goal : goal.returns-clause-goal
returns-clause-goal c = one_goal_text

pub returns-clause-none : goal.returns-clause-none
returns-clause-none c = no_goal_fault_text

pub returns-clause-one : goal.returns-clause-one
returns-clause-one c = one_goal_fault_text
