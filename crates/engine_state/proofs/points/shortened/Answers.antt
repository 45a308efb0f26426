use Rattle.std.proofs.Common.{◌≡◌, ◌-◌, max, sym, ap, subst, ◌∙◌, arith}
use Rattle.engine_state.specs.declared.points.Alternative.TheVariants as alternative
use Rattle.engine_state.specs.Engines.{Retries}
use Rattle.engine_state.specs.Stacks.{shortened}
use Rattle.engine_state.specs.Views.{as_pending, as_alternative}
use Rattle.engine_state.specs.Moments.{MayBecome}
use Rattle.engine_state.proofs.PointLaws.{clauses_short}
use Rattle.engine_state.proofs.PointMoments.{may_stay, may_shorten}
use Rattle.engine_state.proofs.points.shortened.Goals as goal

pub returns-in-Resumes-clause-may : goal.returns-in-Resumes-clause-may
returns-in-Resumes-clause-may c = λ program some. subst (λ a. MayBecome program a (alternative.Resumes c.in-Resumes.rest)) (sym c.in-Resumes.is) (may_stay program (alternative.Resumes c.in-Resumes.rest))

pub returns-in-Retries-clause-shortened : goal.returns-in-Retries-clause-shortened
returns-in-Retries-clause-shortened c =
    let next = c.in-Retries.next in
    let end = c.in-Retries.end in
    let from : c.max.result ≡ max next (end - c.args.left) = omega arith in
    λ index notes. ap (λ xs. Retries xs (as_pending notes c.in-Retries.call)) (clauses_short index c.in-Retries.call.exit.pred c.in-Retries.key next end c.args.left c.max.result from)
    ∙ sym (ap (λ a. shortened c.args.left (as_alternative index notes a)) c.in-Retries.is)

pub returns-in-Retries-clause-may : goal.returns-in-Retries-clause-may
returns-in-Retries-clause-may c =
    let next = c.in-Retries.next in
    let end = c.in-Retries.end in
    let call = c.in-Retries.call in
    let from : c.max.result ≡ max next (end - c.args.left) = omega arith in
    λ program some. subst (λ a. MayBecome program a (alternative.Retries c.in-Retries.key c.max.result end call)) (sym c.in-Retries.is) (may_shorten program c.in-Retries.key next end c.args.left c.max.result call from some)

pub returns-in-Marks-clause-may : goal.returns-in-Marks-clause-may
returns-in-Marks-clause-may c =
    let a = alternative.Marks c.in-Marks.pred c.in-Marks.conds c.in-Marks.exited in
    λ program some. subst (λ b. MayBecome program b a) (sym c.in-Marks.is) (may_stay program a)
