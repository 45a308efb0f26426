use Rattle.std.proofs.Common.{◌≡◌, subst, arith}
use Rattle.engine_state.specs.Stacks.{height_of}
use Rattle.engine_state.specs.Views.{as_points}
use Rattle.engine_state.proofs.EngineLaws.{goes_pointed}
use Rattle.engine_state.proofs.engine.Engine.add_point.Goals as goal

pub returns : goal.returns
returns c =
    let e = c.args.self.now in
    let below : c.in_ok-below.below ≡ height_of (as_points e.index e.notes.items e.points.items) =
    subst (λ ps. c.in_ok-below.below ≡ height_of (as_points e.index e.notes.items ps)) c.as_slice.ensures.value (c.in_ok-below.ensures e.index e.notes.items) in
    goes_pointed e c.requires.kept _ c.push.new.self c.in_ok-push.ensures.items c.changes.ensures (omega (arith, c.len.ensures, e.links.ok.0)) (omega (arith, c.len-2.ensures, e.notes.ok.0)) below c.requires.placed c.requires.noted c.requires.wide
