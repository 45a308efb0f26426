use Rattle.std.proofs.Common.{ap, ◌∙◌}
use Rattle.unit_scopes.specs.Copies.{closed_all}
use Rattle.unit_scopes.proofs.CopyLaws.{closed_opened, closed_all_append}
use Rattle.unit_scopes.proofs.copies.copied_term.Goals as goal

pub loop-name-preserved : goal.loop-name-preserved
loop-name-preserved c =
    ap (λ outers. closed_all outers c.in-Some.last.now) c.in_ok-push.ensures.ok
    ∙ closed_all_append c.loop-name.compounds c.in_ok-outer.outer c.in-Some.last.now
    ∙ ap (closed_all c.loop-name.compounds) (closed_opened c.in_ok-outer.outer c.in-Some.name c.in-Some.front.now c.in-Some.last.now c.loop-name.here.now c.in_ok-outer.ensures c.in-Some.ensures.whole)
    ∙ c.loop-name.invariant
