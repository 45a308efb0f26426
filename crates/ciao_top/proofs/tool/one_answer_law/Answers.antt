use Rattle.ciao_top.proofs.Answers.{one_answer}
use Rattle.ciao_top.proofs.tool.one_answer_law.Goals as goal

pub returns : goal.returns
returns c = one_answer c.relied_law.ensures c.one_run_law.ensures
