use Rattle.engine_state.proofs.EngineLaws.{goes_cut}
use Rattle.engine_state.proofs.engine.Engine.cut_to.Goals as goal

pub returns : goal.returns
returns c =
    let e = c.args.self.now in
    goes_cut e c.requires c.args.height c.cut_points.new.points (c.cut_points.ensures.cut e.index e.notes.items)
    (c.cut_points.ensures.moments e.program.now e.query e.heap.changes e.notes.items e.links.items c.requires.moments)
