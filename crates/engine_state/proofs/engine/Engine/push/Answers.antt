use Rattle.std.proofs.Common.{◌≡◌, reverse, subst, ◌∙◌, arith}
use Rattle.engine_state.specs.Moments.{links_held}
use Rattle.engine_state.specs.Stacks.{IsPushed}
use Rattle.engine_state.specs.Views.{as_task, as_links}
use Rattle.engine_state.proofs.EngineLaws.{links_enough, leads_down, goes_pushed}
use Rattle.engine_state.proofs.engine.Engine.push.Goals as goal

pub push_link-requires-clause-held : goal.push_link-requires-clause-held
push_link-requires-clause-held c =
    let e = c.args.self.now in
    let held : c.held_links-held.result ≡ links_held (reverse e.points.items) = subst (λ ps. c.held_links-held.result ≡ links_held (reverse ps)) c.as_slice.ensures.value c.held_links-held.ensures in
    omega (arith, held, links_enough e c.requires.kept)

pub push_link-requires-clause-down : goal.push_link-requires-clause-down
push_link-requires-clause-down c = leads_down c.args.self.now c.requires.kept

pub returns : goal.returns
returns c =
    let e = c.args.self.now in
    let notes = e.notes.items in
    let held : c.held_links-held.result ≡ links_held (reverse e.points.items) = subst (λ ps. c.held_links-held.result ≡ links_held (reverse ps)) c.as_slice.ensures.value c.held_links-held.ensures in
    let count = c.len.ensures ∙ e.notes.ok.0 in
    goes_pushed e c.requires.kept c.args.task c.args.rest c.in_ok-number.number c.push_link.new.links
    (subst (λ h. IsPushed h c.args.rest (as_links notes e.links.items) (as_task notes c.args.task) c.in_ok-number.number (as_links notes c.push_link.new.links.items)) held (c.in_ok-number.ensures.pushed notes))
    (c.in_ok-number.ensures.moments e.program.now e.query e.heap.changes notes e.points.items c.requires.kept.moments (omega (arith, held)) c.requires.placed c.requires.noted (omega (arith, count)))
