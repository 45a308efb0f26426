use Rattle.std.proofs.Common.{ap, sym, ◌∙◌}
use Rattle.body_code.specs.Conjunctions.{conjoined}
use Rattle.body_code.proofs.ConjunctionLaws.{conjoined_more}
use Rattle.body_code.proofs.goals.conjoined.Goals as goal

pub loop-goal-preserved : goal.loop-goal-preserved
loop-goal-preserved c =
    ap (conjoined c.pop.new.self) c.in_ok-whole.ensures
    ∙ sym (conjoined_more c.pop.new.self c.in-Some.goal c.loop-goal.whole)
    ∙ ap (λ goals. conjoined goals c.loop-goal.whole) (sym c.in-Some.ensures)
    ∙ c.loop-goal.invariant
