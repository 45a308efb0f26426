use Rattle.std.proofs.Common.{◌≡◌, ◌<◌, ◌∷◌, [], replicate, refl, sym, ap, subst, ◌∙◌, arith}
use Rattle.term_heap.specs.declared.cells.Cell.TheVariants.{Free}
use Rattle.term_heap.specs.Changes.{Grows, size_of, next_serial}
use Rattle.term_heap.specs.Loads.{IsPlaced}
use Rattle.machine_model.specs.Run.{nowhere}
use Rattle.engine_state.specs.declared.engine.Engine as code
use Rattle.engine_state.specs.declared.stages.Stage.TheVariants as stage
use Rattle.sld_engine.specs.Starts.{arguments_row, HasStarted}
use Rattle.sld_engine.proofs.StartLaws.{query_placed, query_value, enough_cells, started}
use Rattle.sld_engine.proofs.starting.start_engine.Goals as goal

pub load-requires : goal.load-requires
load-requires c =
    let n = c.in-Some.variables in
    let query = c.args.query.now in
    let fresh : c.fresh.new.self.changes ≡ Grows (replicate n Free) (next_serial 0) ∷ [] =
    ap (λ h. h.changes) c.in_ok-fresh.ensures.ok ∙ ap (λ h. Grows (replicate n Free) (next_serial h.last) ∷ h.changes) c.new-heap.ensures in
    subst (λ cs. IsPlaced (size_of cs) 0 query) (sym fresh) (query_placed query n (next_serial 0) c.in-Some.ensures)

pub returns : goal.returns
returns c =
    let n = c.in-Some.variables in
    let program = c.args.program.now in
    let query = c.args.query.now in
    let heap = c.load.new.self in
    let place = c.in_ok-place.place in
    let loaded = c.in_ok-place.ensures.ok in
    let fresh : c.fresh.new.self.changes ≡ Grows (replicate n Free) (next_serial 0) ∷ [] =
    ap (λ h. h.changes) c.in_ok-fresh.ensures.ok ∙ ap (λ h. Grows (replicate n Free) (next_serial h.last) ∷ h.changes) c.new-heap.ensures in
    let e : code.Engine = record { program = c.args.program; index = c.in_ok-index.index; heap = heap; links = c.new.result; notes = c.new-2.result; points = c.new-3.result; calls = 0; query = place } in
    let within = loaded.within in
    let there : place < size_of heap.changes = omega (arith, within) in
    let clauses = c.relied_law.ensures.clauses in
    subst (λ args_row. HasStarted program c.args.pred query e (stage.Calling c.args.pred args_row 0 nowhere 0)) (sym (c.arguments_row-args.ensures ∙ ap arguments_row c.cell.ensures))
    (started c.relied_law.ensures.found program c.requires.program c.args.pred query c.requires.called e c.root-root.result refl c.in_ok-index.ensures c.new.ensures.items c.new-2.ensures.items c.new-3.ensures.items refl c.len-size.ensures.made there
    c.root-root.ensures.place c.root-root.ensures.end (query_value clauses query n (next_serial 0) place c.fresh.new.self heap fresh c.in-Some.ensures loaded) c.root-root.ensures.value
    (enough_cells clauses query n (next_serial 0) place c.fresh.new.self heap fresh c.in-Some.ensures loaded))
