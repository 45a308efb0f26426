use Rattle.ciao_reader.proofs.EveryText.{every_goal_text}
use Rattle.ciao_reader.proofs.laws.every_goal_law.Goals as goal

pub returns : goal.returns
returns c = every_goal_text
