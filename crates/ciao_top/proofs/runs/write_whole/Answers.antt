use Rattle.ciao_top.proofs.RunTexts.{run_answers}
use Rattle.ciao_top.proofs.runs.write_whole.Goals as goal

pub returns-in-Ok-clause-comes : goal.returns-in-Ok-clause-comes
returns-in-Ok-clause-comes g c = run_answers _ _ _ _ _ c.in-Ok.ensures.starts _ _ _ _ _ c.in-Ok.ensures.bound c.write_run.ensures.comes
