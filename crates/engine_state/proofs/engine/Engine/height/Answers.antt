use Rattle.std.proofs.Common.{◌≡◌, subst}
use Rattle.engine_state.specs.Stacks.{height_of}
use Rattle.engine_state.specs.Views.{as_points}
use Rattle.engine_state.proofs.EngineLaws.{height_at}
use Rattle.engine_state.proofs.engine.Engine.height.Goals as goal

pub returns : goal.returns
returns c =
    let e = c.args.self.now in
    height_at e c.in_ok-height.height c.requires (subst (λ ps. c.in_ok-height.height ≡ height_of (as_points e.index e.notes.items ps)) c.as_slice.ensures.value (c.in_ok-height.ensures e.index e.notes.items))
