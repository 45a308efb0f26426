use Rattle.std.proofs.Common.{◌≡◌, ◌-◌, sym, ap, ◌∙◌, arith}
use Rattle.engine_state.specs.Stacks.{width}
use Rattle.engine_state.specs.Views.{as_alternative}
use Rattle.engine_state.proofs.PointLaws.{length-left}
use Rattle.engine_state.proofs.points.width.Goals as goal

pub returns-in-Retries : goal.returns-in-Retries
returns-in-Retries c =
    let next = c.in-Retries.next in
    let end = c.in-Retries.end in
    let is : c.saturating_sub.result ≡ end - next = omega arith in
    λ index notes. is ∙ sym (ap (λ a. width (as_alternative index notes a)) c.in-Retries.is ∙ length-left index c.in-Retries.field-3.exit.pred c.in-Retries.field-0 next end)
