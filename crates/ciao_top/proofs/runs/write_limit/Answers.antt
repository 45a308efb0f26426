use Rattle.std.proofs.Common.{refl}
use Rattle.ciao_top.specs.Limits.{limit_line}
use Rattle.ciao_top.specs.InnerAnswers.{Whole}
use Rattle.ciao_top.proofs.Comings.{cut_short, only_begun}
use Rattle.ciao_top.proofs.runs.write_limit.Goals as goal

pub returns-in-Ok-clause-comes : goal.returns-in-Ok-clause-comes
returns-in-Ok-clause-comes g c = Whole limit_line (refl, refl) c.in-Ok.ensures.ok

pub returns-in-Err-clause-comes : goal.returns-in-Err-clause-comes
returns-in-Err-clause-comes g c = cut_short _ _ _ _ _ _ c.in-Err.ensures.status (only_begun limit_line 0 _ _ c.in-Err.ensures.err)
