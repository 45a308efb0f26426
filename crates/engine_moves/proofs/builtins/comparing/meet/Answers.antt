use Rattle.std.proofs.Common.{ap, sym, subst, ◌∙◌, arith}
use Rattle.term_heap.specs.declared.cells.Cell.{Cell}
use Rattle.term_heap.specs.Changes.{size_of, value_of, cells_of, cell_at, NamesBelow}
use Rattle.engine_moves.specs.SamePairs.{Compared}
use Rattle.engine_moves.proofs.SameLaws.{met_once, met_compared}
use Rattle.term_heap.proofs.ValueLaws.{names_in, names_more}
use Rattle.engine_moves.proofs.builtins.comparing.meet.Goals as goal

pub compare-requires-clause-left : goal.compare-requires-clause-left
compare-requires-clause-left c =
    let h = c.args.heap.now.changes in
    let below : NamesBelow (size_of h) c.cell-one.result = subst (NamesBelow (size_of h)) (sym c.cell-one.ensures) (names_in h c.root-first.result c.len-size.ensures.made c.root-first.ensures.place) in
    names_more (size_of h) 18446744073709551615 c.cell-one.result (omega (arith, c.len-size.ensures.len)) below

pub compare-requires-clause-right : goal.compare-requires-clause-right
compare-requires-clause-right c =
    let h = c.args.heap.now.changes in
    let below : NamesBelow (size_of h) c.cell-other.result = subst (NamesBelow (size_of h)) (sym c.cell-other.ensures) (names_in h c.root-second.result c.len-size.ensures.made c.root-second.ensures.place) in
    names_more (size_of h) 18446744073709551615 c.cell-other.result (omega (arith, c.len-size.ensures.len)) below

pub returns-then-first-second : goal.returns-then-first-second
returns-then-first-second c =
    let h = c.args.heap.now.changes in
    met_once h c.args.left c.args.right c.root-first.result c.args.work.now.items c.root-first.ensures.value (ap (value_of h) c.if-first-second.true ∙ c.root-second.ensures.value)

pub returns : goal.returns
returns c =
    let h = c.args.heap.now.changes in
    let x = c.root-first.result in
    let y = c.root-second.result in
    let before = c.args.work.now.items in
    let after = c.compare.new.work.items in
    let met = c.in_ok-met.met in
    let compared : Compared (cell_at (cells_of h) x) (cell_at (cells_of h) y) before met after =
    subst (λ (d : Cell). Compared (cell_at (cells_of h) x) d before met after) c.cell-other.ensures (subst (λ (d : Cell). Compared d c.cell-other.result before met after) c.cell-one.ensures c.in_ok-met.ensures) in
    met_compared h c.len-size.ensures.made c.args.left c.args.right x y c.if-first-second.false c.root-first.ensures.place c.root-second.ensures.place c.root-first.ensures.end c.root-second.ensures.end
    c.root-first.ensures.value c.root-second.ensures.value before met after compared
