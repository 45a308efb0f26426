use Rattle.std.proofs.Common.{sym, subst}
use Rattle.std.specs.Prelude.{true}
use Rattle.engine_state.specs.declared.points.Alternative.TheVariants as alternative
use Rattle.engine_state.specs.Moments.{MayBecome}
use Rattle.engine_state.proofs.PointMoments.{may_stay, may_exit}
use Rattle.engine_state.proofs.marks.exited.Goals as goal

pub returns-in-Resumes-clause-may : goal.returns-in-Resumes-clause-may
returns-in-Resumes-clause-may c = let a = alternative.Resumes c.in-Resumes.rest in λ program. subst (λ b. MayBecome program b a) (sym c.in-Resumes.is) (may_stay program a)

pub returns-in-Retries-clause-may : goal.returns-in-Retries-clause-may
returns-in-Retries-clause-may c = let a = alternative.Retries c.in-Retries.key c.in-Retries.next c.in-Retries.end c.in-Retries.call in λ program. subst (λ b. MayBecome program b a) (sym c.in-Retries.is) (may_stay program a)

pub returns-in-Marks-clause-may : goal.returns-in-Marks-clause-may
returns-in-Marks-clause-may c = λ program. subst (λ b. MayBecome program b (alternative.Marks c.in-Marks.pred c.in-Marks.conds true)) (sym c.in-Marks.is) (may_exit program c.in-Marks.pred c.in-Marks.conds c.in-Marks.field-2 true)
