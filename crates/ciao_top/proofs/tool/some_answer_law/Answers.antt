use Rattle.ciao_top.proofs.Answers.{some_answer}
use Rattle.ciao_top.proofs.tool.some_answer_law.Goals as goal

pub returns : goal.returns
returns c = some_answer c.ends_law.ensures c.some_load_law.ensures
