use Rattle.std.proofs.Common.{sym, subst}
use Rattle.engine_state.specs.Moments.{HasMoments}
use Rattle.engine_state.specs.Kept.{IsLetGo}
use Rattle.engine_state.proofs.EngineLaws.{goes_let_go}
use Rattle.engine_state.proofs.engine.Engine.let_go.Goals as goal

pub returns : goal.returns
returns c =
    let e = c.args.self.now in
    let before = subst (λ ps. HasMoments e.program.now e.query e.heap.changes e.notes.items e.links.items ps) (sym c.as_slice.ensures.value) c.requires.kept.moments in
    goes_let_go e c.requires.kept c.args.rest c.let_go.new.links c.let_go.new.notes
    (subst (λ ps. IsLetGo e.program.now e.query e.heap.changes c.args.rest e.notes.items e.links.items ps c.let_go.new.notes.items c.let_go.new.links.items) c.as_slice.ensures.value
    (c.let_go.ensures e.program.now e.query e.heap.changes before c.requires.rest))
