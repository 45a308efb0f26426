use Rattle.std.proofs.Common.{◌≡◌, length, map, get_or, sym, ap, ◌∙◌, arith}
use Rattle.term_heap.specs.Changes.{serials}
use Rattle.term_heap.specs.Histories.{entry_serial}
use Rattle.term_heap.proofs.HistoryLaws.{trail_length, trail_serials, serial_there}
use Rattle.term_heap.proofs.heap.Heap.serial.Goals as goal

pub index-requires : goal.index-requires
index-requires c =
    let cells = c.self.inside.cells.items in
    let trail = c.self.inside.trail.items in
    let same : length c.args.self.now.changes ≡ length trail = sym (ap (λ h. length h.changes) c.self.view_is) ∙ trail_length cells trail in
    omega (arith, same, c.requires, c.self.inside.trail.ok.0)

pub returns : goal.returns
returns c =
    let cells = c.self.inside.cells.items in
    let trail = c.self.inside.trail.items in
    let same : length c.args.self.now.changes ≡ length trail = sym (ap (λ h. length h.changes) c.self.view_is) ∙ trail_length cells trail in
    let are : serials c.args.self.now.changes ≡ map entry_serial trail = ap (λ h. serials h.changes) (sym c.self.view_is) ∙ trail_serials cells trail in
    c.serial.ensures ∙ serial_there trail c.args.at c.index.result.now (omega (arith, same, c.requires)) c.index.ensures ∙ ap (λ ss. get_or ss c.args.at 0) (sym are)
