use Rattle.std.proofs.Common.{sym, subst}
use Rattle.engine_state.proofs.EngineLaws.{points_rise, goes_exited}
use Rattle.engine_state.proofs.engine.Engine.exit_at.Goals as goal

pub exit_mark-requires : goal.exit_mark-requires
exit_mark-requires c = points_rise c.args.self.now c.requires

pub returns : goal.returns
returns c =
    let e = c.args.self.now in
    goes_exited e c.requires c.args.height c.exit_mark.new.points (c.exit_mark.ensures.exited e.index e.notes.items)
    (c.exit_mark.ensures.moments e.program.now e.query e.heap.changes e.notes.items e.links.items c.requires.moments)
