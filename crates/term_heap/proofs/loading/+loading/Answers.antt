use Rattle.std.proofs.Common.{◌≡◌, ◌<◌, ◌+◌, ◌∙◌, ◌++◌, ap, sym, subst, ◌≤◌, length, take, arith}
use Rattle.std.specs.List.{AllByRecursion}
use Rattle.term_core.specs.Sizes.{size, size_all}
use Rattle.term_heap.specs.Loads.{IsPlaced, AreLoaded}
use Rattle.term_heap.proofs.LoadLaws.{block_made, placed_var, var_loaded, placed_parts, placed_at, size_grown, prefix_grown, prefix_loaded, loaded_turn, size_node, size_at, on_err}
use Rattle.term_heap.proofs.loading.+loading.Goals as goal

pub block_of-returns-clause-ok : goal.block_of-returns-clause-ok
block_of-returns-clause-ok t c =
    let mid = c.row_of.new.cells.items in
    block_made c.args.cells.now.items mid c.extend_from_slice.new.self.items c.args.base c.args.terms.now c.in_ok-row.row.items c.len-first.result c.in_ok-row.ensures.ok
    (c.in_ok-extend_from_slice.ensures.items ∙ ap (λ cs. mid ++ cs) c.as_slice.ensures.value) (c.len-first.ensures ∙ c.row_of.new.cells.ok.0)

pub cell_of-overflow_add-result : goal.cell_of-overflow_add-result
cell_of-overflow_add-result t c =
    let within : c.in-Var.v + c.args.base < length c.args.cells.now.items = placed_var (length c.args.cells.now.items) c.args.base c.in-Var.v c.args.term.now c.in-Var.is c.requires in
    omega (arith, within, c.args.cells.now.ok.0, c.args.cells.now.small)

pub cell_of-block_of-requires : goal.cell_of-block_of-requires
cell_of-block_of-requires t c =
    let cells = length c.args.cells.now.items in
    let parts = c.as_slice.result.now in
    let is : size c.args.term.now ≡ size_all parts + 1 = size_node c.in-Node.f c.args.term.now c.in-Node.parts parts c.in-Node.is c.as_slice.ensures in (
      omega (arith, is, c.decreases),
      subst (AllByRecursion (IsPlaced cells c.args.base)) (sym c.as_slice.ensures) (placed_parts cells c.args.base c.in-Node.f c.in-Node.parts (subst (IsPlaced cells c.args.base) c.in-Node.is c.requires)),
    )

pub cell_of-returns-in-Var-clause-ok : goal.cell_of-returns-in-Var-clause-ok
cell_of-returns-in-Var-clause-ok t c = var_loaded c.args.cells.now.items c.args.base c.in-Var.v c.args.term.now c.in-Var.is c.requires

pub row_of-cell_of-requires : goal.row_of-cell_of-requires
row_of-cell_of-requires t c =
    let old = c.args.cells.now.items in
    let cells = c.loop-term.cells.items in
    let less : size c.term-item.result ≤ size_all c.args.terms.now = size_at c.loop-term.term-index c.args.terms.now c.term-item.result c.loop-term-test.true c.term-item.is in (
      omega (arith, less, c.decreases),
      placed_at (length old) (length cells) c.args.base c.loop-term.term-index c.args.terms.now c.term-item.result c.requires
          (size_grown old cells c.loop-term.row.items c.args.base _ c.loop-term.invariant) c.loop-term-test.true c.term-item.is,
    )

pub row_of-returns-in_err-cell_of-clause-err : goal.row_of-returns-in_err-cell_of-clause-err
row_of-returns-in_err-cell_of-clause-err t c =
    on_err c.from_residual.result (prefix_grown c.args.cells.now.items c.loop-term.cells.items c.cell_of.new.cells.items c.loop-term.row.items c.args.base _ c.loop-term.invariant c.in_err-cell_of.ensures.err)

pub row_of-returns-in_err-push-clause-err : goal.row_of-returns-in_err-push-clause-err
row_of-returns-in_err-push-clause-err t c =
    on_err c.from_residual-in_err-push.result
    (prefix_loaded c.args.cells.now.items c.loop-term.cells.items c.cell_of.new.cells.items c.loop-term.row.items c.args.base _ c.term-item.result _ c.loop-term.invariant c.in_ok-cell_of.ensures.ok)

pub row_of-loop-term-preserved : goal.row_of-loop-term-preserved
row_of-loop-term-preserved t c =
    let old = c.args.cells.now.items in
    let cells = c.loop-term.cells.items in
    let new = c.cell_of.new.cells.items in
    let terms = c.args.terms.now in
    subst (AreLoaded old c.args.base (take (c.loop-term.term-index + 1) terms) new) (sym c.in_ok-push.ensures.items)
    (loaded_turn old cells new c.args.base c.loop-term.term-index terms c.term-item.result c.loop-term.row.items c.in_ok-cell_of.field-0 c.requires c.loop-term-test.true c.term-item.is c.loop-term.invariant c.in_ok-cell_of.ensures.ok)
