use Rattle.std.proofs.Common.{refl, ◌∙◌}
use Rattle.engine_state.proofs.MarkLaws.{found_within, seen_nowhere, seen_found, noted_at}
use Rattle.engine_state.proofs.marks.mark_at.Goals as goal

pub returns-in-None-clause-mark : goal.returns-in-None-clause-mark
returns-in-None-clause-mark c = λ index notes. seen_nowhere c.args.height index notes c.args.points.now c.in-None.ensures

pub returns-in-Some-clause-mark : goal.returns-in-Some-clause-mark
returns-in-Some-clause-mark c = λ index notes. c.mark_in.ensures.mark index notes ∙ seen_found c.args.height index notes c.args.points.now c.in-Some.place _ _ c.in-Some.ensures refl

pub returns-in-Some-clause-noted : goal.returns-in-Some-clause-noted
returns-in-Some-clause-noted c =
    λ held all. c.mark_in.ensures.noted held (noted_at c.args.height held c.args.points.now c.in-Some.place _ _ (found_within c.args.height c.args.points.now c.in-Some.place c.in-Some.ensures) refl all)
