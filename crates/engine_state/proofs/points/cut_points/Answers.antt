use Rattle.std.proofs.Common.{◌≡◌, ◌+◌, ◌-◌, length, take, refl, ap, subst, ◌∙◌, arith}
use Rattle.std.specs.Prelude.{vec_len}
use Rattle.engine_state.specs.Newest.{IsNewest}
use Rattle.engine_state.specs.Views.{as_point}
use Rattle.engine_state.proofs.PointLaws.{cut_here, cut_off, size_is}
use Rattle.engine_state.proofs.PointMoments.{popped, changed}
use Rattle.engine_state.proofs.points.cut_points.Goals as goal

pub returns-then-point-height-clause-cut : goal.returns-then-point-height-clause-cut
returns-then-point-height-clause-cut c =
    let items = c.loop-point.points.items in
    let p = c.in-Some.point in
    let at_end : IsNewest items p = subst (λ ps. IsNewest ps p) c.as_slice.ensures.value c.in-Some.ensures in
    λ index notes.
    let size : (c.len-last.result - 1) + 1 ≡ length items = omega (arith, size_is items p at_end, c.len-last.ensures, c.loop-point.points.ok.0) in
    cut_here index notes c.args.height items _ p at_end c.with.result (c.len-last.result - 1) size refl c.if-point-height.true
    (ap (as_point index notes) c.with.ensures ∙ ap (λ a. record (as_point index notes p) { alternative = a }) (c.shortened.ensures.shortened index notes))
    ∙ c.loop-point.invariant.cut index notes

pub returns-then-point-height-clause-moments : goal.returns-then-point-height-clause-moments
returns-then-point-height-clause-moments c =
    let items = c.loop-point.points.items in
    let p = c.in-Some.point in
    let at_end : IsNewest items p = subst (λ ps. IsNewest ps p) c.as_slice.ensures.value c.in-Some.ensures in
    λ program query changes notes links are.
    let size : (c.len-last.result - 1) + 1 ≡ length items = omega (arith, size_is items p at_end, c.len-last.ensures, c.loop-point.points.ok.0) in
    changed program query changes notes links items _ p at_end c.with.result (c.len-last.result - 1) c.shortened.result size refl c.with.ensures
    (c.shortened.ensures.may program (omega (arith, c.if-point-height.true))) (c.loop-point.invariant.moments program query changes notes links are)

pub loop-point-preserved : goal.loop-point-preserved
loop-point-preserved c =
    let items = c.loop-point.points.items in
    let p = c.in-Some.point in
    let at_end : IsNewest items p = subst (λ ps. IsNewest ps p) c.as_slice.ensures.value c.in-Some.ensures in
    let size : vec_len c.loop-point.points - 1 ≡ length items - 1 = omega (arith, c.loop-point.points.ok.0) in
    let is : c.pop.new.self.items ≡ take (length items - 1) items = c.pop.ensures.rest ∙ ap (λ n. take n items) size in
    record {
      cut = λ index notes. cut_off index notes c.args.height items c.pop.new.self.items p at_end is (omega (arith, c.if-point-height.false)) ∙ c.loop-point.invariant.cut index notes;
      moments = λ program query changes notes links are. popped program query changes notes links items c.pop.new.self.items p at_end is (c.loop-point.invariant.moments program query changes notes links are);
    }
