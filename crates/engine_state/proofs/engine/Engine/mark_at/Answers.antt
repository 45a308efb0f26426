use Rattle.std.proofs.Common.{◌≡◌, ◌∙◌, length, sym, subst}
use Rattle.engine_state.specs.Newest.{AreRising}
use Rattle.engine_state.specs.Stacks.{mark_at_height}
use Rattle.engine_state.specs.Views.{as_marked, as_points}
use Rattle.engine_state.specs.Notes.{ArePointsNoted}
use Rattle.engine_state.proofs.EngineLaws.{points_rise, mark_is, all_noted}
use Rattle.engine_state.proofs.engine.Engine.mark_at.Goals as goal

pub mark_at-requires : goal.mark_at-requires
mark_at-requires c = subst AreRising (sym c.as_slice.ensures.value) (points_rise c.args.self.now c.requires)

pub returns-clause-mark : goal.returns-clause-mark
returns-clause-mark c =
    let e = c.args.self.now in
    subst (λ ps. as_marked e.notes.items c.mark_at.result ≡ mark_at_height c.args.height (as_points e.index e.notes.items ps)) c.as_slice.ensures.value (c.mark_at.ensures.mark e.index e.notes.items) ∙ mark_is e c.args.height c.requires

pub returns-clause-noted : goal.returns-clause-noted
returns-clause-noted c = let e = c.args.self.now in c.mark_at.ensures.noted (length e.notes.items) (subst (ArePointsNoted (length e.notes.items)) (sym c.as_slice.ensures.value) (all_noted e c.requires))
