use Rattle.std.proofs.Common.{◌≡◌, ◌≤◌, ◌<◌, ◌+◌, ◌-◌, length, take, refl, ap, subst, ◌∙◌, arith}
use Rattle.std.specs.Prelude.{vec_len}
use Rattle.engine_state.specs.Newest.{IsNewest}
use Rattle.engine_state.proofs.PointLaws.{whole, clause, size_is, width_short}
use Rattle.engine_state.proofs.PointMoments.{popped_back, clause_back}
use Rattle.engine_state.proofs.points.take_newest.Goals as goal

pub returns-in-Resumes-clause-back : goal.returns-in-Resumes-clause-back
returns-in-Resumes-clause-back c =
    let items = c.args.points.now.items in
    let at_end : IsNewest items c.in-Some.point = subst (λ ps. IsNewest ps c.in-Some.point) c.as_slice.ensures.value c.in-Some.ensures in
    let size : vec_len c.args.points.now - 1 ≡ length items - 1 = omega (arith, c.args.points.now.ok.0) in
    λ program query changes notes links are.
    popped_back program query changes notes links items c.pop.new.self.items c.in-Some.point at_end (c.pop.ensures.rest ∙ ap (λ n. take n items) size) are

pub returns-in-Marks-clause-back : goal.returns-in-Marks-clause-back
returns-in-Marks-clause-back c =
    let items = c.args.points.now.items in
    let at_end : IsNewest items c.in-Some.point = subst (λ ps. IsNewest ps c.in-Some.point) c.as_slice.ensures.value c.in-Some.ensures in
    let size : vec_len c.args.points.now - 1 ≡ length items - 1 = omega (arith, c.args.points.now.ok.0) in
    λ program query changes notes links are.
    popped_back program query changes notes links items c.pop-in-Marks.new.self.items c.in-Some.point at_end (c.pop-in-Marks.ensures.rest ∙ ap (λ n. take n items) size) are

pub returns-then-saturating_sub-le1-clause-taken : goal.returns-then-saturating_sub-le1-clause-taken
returns-then-saturating_sub-le1-clause-taken c =
    let items = c.args.points.now.items in
    let at_end : IsNewest items c.in-Some.point = subst (λ ps. IsNewest ps c.in-Some.point) c.as_slice.ensures.value c.in-Some.ensures in
    let few : c.in-Retries.end - c.in-Retries.next ≤ 1 = omega (arith, c.if-saturating_sub-le1.true, c.saturating_sub.ensures) in
    let size : vec_len c.args.points.now - 1 ≡ length items - 1 = omega (arith, c.args.points.now.ok.0) in
    λ index notes. whole index notes items c.pop-then-saturating_sub-le1.new.self.items c.in-Some.point at_end (c.pop-then-saturating_sub-le1.ensures.rest ∙ ap (λ n. take n items) size)
    (width_short index notes c.in-Retries.key c.in-Retries.next c.in-Retries.end c.in-Retries.call c.in-Some.point.alternative c.in-Retries.is few)

pub returns-then-saturating_sub-le1-clause-back : goal.returns-then-saturating_sub-le1-clause-back
returns-then-saturating_sub-le1-clause-back c =
    let items = c.args.points.now.items in
    let at_end : IsNewest items c.in-Some.point = subst (λ ps. IsNewest ps c.in-Some.point) c.as_slice.ensures.value c.in-Some.ensures in
    let size : vec_len c.args.points.now - 1 ≡ length items - 1 = omega (arith, c.args.points.now.ok.0) in
    λ program query changes notes links are.
    popped_back program query changes notes links items c.pop-then-saturating_sub-le1.new.self.items c.in-Some.point at_end (c.pop-then-saturating_sub-le1.ensures.rest ∙ ap (λ n. take n items) size) are

pub returns-else-saturating_sub-le1-clause-taken : goal.returns-else-saturating_sub-le1-clause-taken
returns-else-saturating_sub-le1-clause-taken c =
    let items = c.args.points.now.items in
    let at_end : IsNewest items c.in-Some.point = subst (λ ps. IsNewest ps c.in-Some.point) c.as_slice.ensures.value c.in-Some.ensures in
    let more : 1 < c.in-Retries.end - c.in-Retries.next = omega (arith, c.if-saturating_sub-le1.false, c.saturating_sub.ensures) in
    λ index notes.
    let size : (c.len-last.result - 1) + 1 ≡ length items = omega (arith, size_is items c.in-Some.point at_end, c.len-last.ensures, c.args.points.now.ok.0) in
    clause index notes items _ c.in-Some.point at_end c.in-Retries.key c.in-Retries.next c.in-Retries.end c.in-Retries.call c.in-Retries.is c.with.result c.with-in-Retries.result (c.len-last.result - 1) size refl c.with.ensures c.with-in-Retries.ensures more

pub returns-else-saturating_sub-le1-clause-back : goal.returns-else-saturating_sub-le1-clause-back
returns-else-saturating_sub-le1-clause-back c =
    let items = c.args.points.now.items in
    let at_end : IsNewest items c.in-Some.point = subst (λ ps. IsNewest ps c.in-Some.point) c.as_slice.ensures.value c.in-Some.ensures in
    let more : 1 < c.in-Retries.end - c.in-Retries.next = omega (arith, c.if-saturating_sub-le1.false, c.saturating_sub.ensures) in
    λ program query changes notes links are.
    let size : (c.len-last.result - 1) + 1 ≡ length items = omega (arith, size_is items c.in-Some.point at_end, c.len-last.ensures, c.args.points.now.ok.0) in
    clause_back program query changes notes links items _ c.in-Some.point at_end c.in-Retries.key c.in-Retries.next c.in-Retries.end c.in-Retries.call c.in-Retries.is c.with.result c.with-in-Retries.result (c.len-last.result - 1) size refl c.with.ensures c.with-in-Retries.ensures more are
