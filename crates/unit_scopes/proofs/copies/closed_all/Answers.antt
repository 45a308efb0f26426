use Rattle.std.proofs.Common.{ap, sym, ◌∙◌}
use Rattle.unit_scopes.specs.Copies.{closed_all}
use Rattle.unit_scopes.proofs.CopyLaws.{closed_all_append}
use Rattle.unit_scopes.proofs.copies.closed_all.Goals as goal

pub loop-outer-preserved : goal.loop-outer-preserved
loop-outer-preserved c =
    ap (closed_all c.pop.new.self) c.closed-made.ensures
    ∙ sym (closed_all_append c.pop.new.self c.in-Some.outer c.loop-outer.made)
    ∙ sym (ap (λ outers. closed_all outers c.loop-outer.made) c.in-Some.ensures)
    ∙ c.loop-outer.invariant
