use Rattle.std.proofs.Common.{◌≡◌, ◌++◌, ◌∷◌, [], sym, ap, subst, ◌∙◌, arith}
use Rattle.term_heap.specs.declared.trails.Entry.TheVariants.{Grew}
use Rattle.term_heap.specs.Histories.{IsKept}
use Rattle.term_heap.proofs.HistoryLaws.{grown_kept}
use Rattle.term_heap.proofs.heap.Heap.load_all.Goals as goal

pub invariant_of-self-2 : goal.invariant_of-self-2
invariant_of-self-2 c =
    let cells = c.self.inside.cells.items in
    let trail = c.self.inside.trail.items in
    let s = c.saturating_add-serial.result in
    let block = c.in_ok-first.ensures.ok in
    let is_trail : c.push.new.self.items ≡ trail ++ Grew c.len-from.result s ∷ [] = c.in_ok-push.ensures.items ∙ ap (λ es. es ++ Grew c.len-from.result s ∷ []) c.in_ok-reserve.ensures.items in
    subst (λ cs. IsKept cs c.push.new.self.items s) (sym block.is_new)
    (subst (λ es. IsKept (cells ++ block.more) es s) (sym is_trail)
    (grown_kept cells block.more trail c.self.inside.last c.len-from.result s (omega (arith, c.saturating_add-serial.ensures)) (omega (arith, c.saturating_add-serial.ensures)) (c.len-from.ensures ∙ c.self.inside.cells.ok.0) c.self.invariant block.names))
