use Rattle.std.proofs.Common.{◌≡◌, ◌∷◌, [], length, reverse, sym, subst}
use Rattle.term_heap.specs.Changes.{size_of}
use Rattle.engine_state.specs.Engines.{chain}
use Rattle.engine_state.specs.Views.{as_task, as_links, LeadDown}
use Rattle.engine_state.specs.Moments.{ArePlaced, IsLinkPlaced}
use Rattle.engine_state.proofs.EngineLaws.{leads_down, all_placed}
use Rattle.engine_state.proofs.engine.Engine.link.Goals as goal

pub link_at-requires : goal.link_at-requires
link_at-requires c = subst (λ ls. LeadDown (reverse ls)) (sym c.as_slice.ensures.value) (leads_down c.args.self.now c.requires)

pub returns-in-None : goal.returns-in-None
returns-in-None c = let e = c.args.self.now in subst (λ ls. chain (as_links e.notes.items ls) c.args.number ≡ []) c.as_slice.ensures.value (c.in-None.ensures.tasks e.notes.items)

pub returns-in-Some : goal.returns-in-Some
returns-in-Some c =
    let e = c.args.self.now in
    let l = c.in-Some.link in
    let cells = size_of e.heap.changes in
    record {
      tasks = subst (λ ls. chain (as_links e.notes.items ls) c.args.number ≡ as_task e.notes.items l.task ∷ chain (as_links e.notes.items ls) l.next) c.as_slice.ensures.value (c.in-Some.ensures.tasks e.notes.items);
      is_placed = subst (λ ls. IsLinkPlaced e.program.now cells (length e.notes.items) (length ls) l) c.as_slice.ensures.value
          (c.in-Some.ensures.placed e.program.now cells (length e.notes.items) (subst (λ ls. ArePlaced e.program.now cells (length e.notes.items) (reverse ls)) (sym c.as_slice.ensures.value) (all_placed e c.requires)));
    }
