use Rattle.std.proofs.Common.{FitsSigned, rules, sym, subst}
use Rattle.std.specs.Int.{w64}
use Rattle.std.proofs.lemmas.Int.{to_z-of_z}
use Rattle.term_heap.specs.declared.cells.Cell.TheVariants as cell
use Rattle.term_heap.specs.Changes.{IsEnd}
use Rattle.unify_core.specs.Unmet.{IsSeen}
use Rattle.unify_core.proofs.MatchLaws.{seen}
use Rattle.unify_core.proofs.matching.see.Goals as goal

pub returns-in-Int : goal.returns-in-Int
returns-in-Int c =
    let h = c.args.heap.now.changes in
    let n = c.in-Int.n in
    let fits : FitsSigned w64 n = search rules in
    seen h c.args.at c.root-root.result c.args.term.now c.len-size.ensures.made c.root-root.ensures.place c.root-root.ensures.value c.cell-cell.result (cell.Int n) c.compare_with.result (sym c.cell-cell.ensures)
    (subst IsEnd (sym c.cell-cell.ensures) c.root-root.ensures.end) c.in-Int.is (subst (λ m. IsSeen c.cell-cell.result (cell.Int m) c.compare_with.result) (to_z-of_z w64 n fits) c.compare_with.ensures)

pub returns-in-Atom : goal.returns-in-Atom
returns-in-Atom c =
    let h = c.args.heap.now.changes in
    seen h c.args.at c.root-root.result c.args.term.now c.len-size.ensures.made c.root-root.ensures.place c.root-root.ensures.value c.cell-cell.result (cell.Atom c.in-Atom.a) c.compare_with-in-Atom.result (sym c.cell-cell.ensures)
    (subst IsEnd (sym c.cell-cell.ensures) c.root-root.ensures.end) c.in-Atom.is c.compare_with-in-Atom.ensures

pub returns-in-Node : goal.returns-in-Node
returns-in-Node c =
    let h = c.args.heap.now.changes in
    seen h c.args.at c.root-root.result c.args.term.now c.len-size.ensures.made c.root-root.ensures.place c.root-root.ensures.value c.cell-cell.result (cell.Node c.in-Node.f c.len.result 0) c.compare_with-in-Node.result (sym c.cell-cell.ensures)
    (subst IsEnd (sym c.cell-cell.ensures) c.root-root.ensures.end) (c.in-Node.parts, c.in-Node.is, c.len.ensures) c.compare_with-in-Node.ensures
