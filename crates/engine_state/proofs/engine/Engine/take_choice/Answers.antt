use Rattle.std.proofs.Common.{ap}
use Rattle.engine_state.specs.Engines.{choices_of}
use Rattle.engine_state.specs.Views.{as_links}
use Rattle.engine_state.proofs.BackLaws.{has_taken}
use Rattle.engine_state.proofs.engine.Engine.take_choice.Goals as goal

pub undo_to-requires : goal.undo_to-requires
undo_to-requires c =
    let e = c.args.self.now in
    (c.in-Some.ensures.back e.program.now e.query e.heap.changes e.notes.items e.links.items c.requires.moments).before.trail

pub returns-in-None-clause-taken : goal.returns-in-None-clause-taken
returns-in-None-clause-taken c = let e = c.args.self.now in ap (choices_of e.heap.changes (as_links e.notes.items e.links.items) e.query) (c.in-None.ensures.taken e.index e.notes.items)

pub returns-in-Some-clause-taken : goal.returns-in-Some-clause-taken
returns-in-Some-clause-taken c =
    let e = c.args.self.now in
    has_taken e c.requires c.in-Some.point c.undo_to.new.self c.truncate.new.self c.truncate-in-Some.new.self c.take_newest.new.points (c.in-Some.ensures.taken e.index e.notes.items)
    (c.in-Some.ensures.back e.program.now e.query e.heap.changes e.notes.items e.links.items c.requires.moments) (ap (λ h. h.changes) c.undo_to.ensures) c.truncate.ensures.items c.truncate-in-Some.ensures.items
