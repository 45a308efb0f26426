use Rattle.std.proofs.Common.{refl, ap, subst, ◌∙◌}
use Rattle.engine_state.specs.Newest.{AreElsewhere, IsFound}
use Rattle.engine_state.specs.Views.{as_point}
use Rattle.engine_state.proofs.MarkLaws.{exit_nowhere, exit_found}
use Rattle.engine_state.proofs.PointMoments.{changed_at}
use Rattle.engine_state.proofs.marks.exit_mark.Goals as goal

pub returns-in-None-clause-exited : goal.returns-in-None-clause-exited
returns-in-None-clause-exited c = λ index notes. exit_nowhere c.args.height index notes c.args.points.now.items (subst (AreElsewhere c.args.height) c.as_slice.ensures.value c.in-None.ensures)

pub returns-in-Some-clause-exited : goal.returns-in-Some-clause-exited
returns-in-Some-clause-exited c =
    let items = c.args.points.now.items in
    let p = c.index-point.result.now in
    let found : IsFound c.args.height items c.in-Some.place = subst (λ ps. IsFound c.args.height ps c.in-Some.place) c.as_slice.ensures.value c.in-Some.ensures in
    λ index notes. exit_found c.args.height index notes items _ c.in-Some.place p c.with.result p found c.index-point.ensures refl
    (ap (as_point index notes) c.with.ensures ∙ ap (λ a. record (as_point index notes p) { alternative = a }) (c.exited.ensures.exited index notes))

pub returns-in-Some-clause-moments : goal.returns-in-Some-clause-moments
returns-in-Some-clause-moments c =
    let items = c.args.points.now.items in
    let p = c.index-point.result.now in
    let found : IsFound c.args.height items c.in-Some.place = subst (λ ps. IsFound c.args.height ps c.in-Some.place) c.as_slice.ensures.value c.in-Some.ensures in
    λ program query changes notes links are.
    changed_at program query changes notes links c.args.height items _ c.in-Some.place p c.with.result p c.exited.result found c.index-point.ensures refl c.with.ensures (c.exited.ensures.may program) are
