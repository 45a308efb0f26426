use Rattle.std.proofs.Common.{◌≤◌, ◌+◌, ◌-◌, ◌&&◌, sym, ap, ◌∙◌, arith}
use Rattle.term_core.specs.Terms.{is_ground}
use Rattle.term_core.specs.Sizes.{size}
use Rattle.term_heap.specs.Changes.{value_of}
use Rattle.prop_check.proofs.GroundLaws.{sizes, all_ground, place_size, fewer_sizes, first_apart, of_free, of_int, of_atom, of_node, node_apart, size_of_node, row_within}
use Rattle.prop_check.proofs.grounds.+grounds.Goals as goal

pub are_ground_at-is_ground_at-requires : goal.are_ground_at-is_ground_at-requires
are_ground_at-is_ground_at-requires t c =
    let v = value_of c.args.heap.now.changes in
    let small : size (v c.loop-at.at) ≤ sizes v c.args.first c.args.count = place_size v c.args.first c.args.count c.loop-at.at (omega arith) (omega arith) in
    (omega (arith, small, c.decreases), omega (arith, c.requires))

pub are_ground_at-loop-at-preserved : goal.are_ground_at-loop-at-preserved
are_ground_at-loop-at-preserved t c =
    let v = value_of c.args.heap.now.changes in
    let end = c.args.first + c.args.count in
    ap (λ b. b && all_ground v (c.loop-at.at + 1) (end - (c.loop-at.at + 1))) c.if-not-is_ground_at.ensures ∙ sym (first_apart v c.loop-at.at end (omega arith)) ∙ c.loop-at.invariant

pub is_ground_at-returns-in-Free : goal.is_ground_at-returns-in-Free
is_ground_at-returns-in-Free t c =
    sym (of_free c.args.heap.now.changes c.root-root.result c.len-size.ensures.made c.root-root.ensures.place c.cell.result c.cell.ensures c.in-Free.is) ∙ ap is_ground c.root-root.ensures.value ∙ c.places.invariant.same

pub is_ground_at-returns-in-Int : goal.is_ground_at-returns-in-Int
is_ground_at-returns-in-Int t c =
    sym (of_int c.args.heap.now.changes c.root-root.result c.len-size.ensures.made c.root-root.ensures.place c.cell.result c.cell.ensures c.in-Int.field-0 c.in-Int.is) ∙ ap is_ground c.root-root.ensures.value ∙ c.places.invariant.same

pub is_ground_at-returns-in-Atom : goal.is_ground_at-returns-in-Atom
is_ground_at-returns-in-Atom t c =
    sym (of_atom c.args.heap.now.changes c.root-root.result c.len-size.ensures.made c.root-root.ensures.place c.cell.result c.cell.ensures c.in-Atom.field-0 c.in-Atom.is) ∙ ap is_ground c.root-root.ensures.value ∙ c.places.invariant.same

pub is_ground_at-returns-then-count-eq0 : goal.is_ground_at-returns-then-count-eq0
is_ground_at-returns-then-count-eq0 t c =
    let h = c.args.heap.now.changes in
    sym (of_node h c.root-root.result c.len-size.ensures.made c.root-root.ensures.place c.cell.result c.cell.ensures c.in-Node.field-0 c.in-Node.count c.in-Node.first c.in-Node.is ∙ ap (all_ground (value_of h) c.in-Node.first) c.if-count-eq0.true)
    ∙ ap is_ground c.root-root.ensures.value ∙ c.places.invariant.same

pub is_ground_at-are_ground_at-requires : goal.is_ground_at-are_ground_at-requires
is_ground_at-are_ground_at-requires t c =
    let h = c.args.heap.now.changes in
    let whole = size_of_node h c.root-root.result c.len-size.ensures.made c.root-root.ensures.place c.cell.result c.cell.ensures c.in-Node.field-0 c.in-Node.count c.in-Node.first c.in-Node.is in
    let within = row_within h c.root-root.result c.len-size.ensures.made c.root-root.ensures.place c.cell.result c.cell.ensures c.in-Node.field-0 c.in-Node.count c.in-Node.first c.in-Node.is in
    let fewer = fewer_sizes (value_of h) c.in-Node.first (c.in-Node.count - 1) c.in-Node.count (omega arith) in
    let root_size = ap size c.root-root.ensures.value in
    (omega (arith, whole, fewer, root_size, c.places.invariant.small, c.decreases), omega (arith, within, c.if-count-eq0.false))

pub is_ground_at-returns-then-not-are_ground_at : goal.is_ground_at-returns-then-not-are_ground_at
is_ground_at-returns-then-not-are_ground_at t c =
    let h = c.args.heap.now.changes in
    ap (λ b. b && is_ground (value_of h (c.in-Node.first + (c.in-Node.count - 1)))) c.if-not-are_ground_at.ensures
    ∙ sym (node_apart h c.root-root.result c.len-size.ensures.made c.root-root.ensures.place c.cell.result c.cell.ensures c.in-Node.field-0 c.in-Node.count c.in-Node.first c.in-Node.is (omega (arith, c.if-count-eq0.false)))
    ∙ ap is_ground c.root-root.ensures.value ∙ c.places.invariant.same

pub is_ground_at-overflow_add-here : goal.is_ground_at-overflow_add-here
is_ground_at-overflow_add-here t c =
    let h = c.args.heap.now.changes in
    let within = row_within h c.root-root.result c.len-size.ensures.made c.root-root.ensures.place c.cell.result c.cell.ensures c.in-Node.field-0 c.in-Node.count c.in-Node.first c.in-Node.is in
    omega (arith, within, c.len-size.ensures.len, c.if-count-eq0.false)

pub is_ground_at-places-smaller : goal.is_ground_at-places-smaller
is_ground_at-places-smaller t c =
    let h = c.args.heap.now.changes in
    let whole = size_of_node h c.root-root.result c.len-size.ensures.made c.root-root.ensures.place c.cell.result c.cell.ensures c.in-Node.field-0 c.in-Node.count c.in-Node.first c.in-Node.is in
    let last = place_size (value_of h) c.in-Node.first c.in-Node.count (c.in-Node.first + (c.in-Node.count - 1)) (omega arith) (omega (arith, c.if-count-eq0.false)) in
    omega (arith, whole, last, ap size c.root-root.ensures.value)

pub is_ground_at-places-preserved : goal.is_ground_at-places-preserved
is_ground_at-places-preserved t c =
    let h = c.args.heap.now.changes in
    let whole = size_of_node h c.root-root.result c.len-size.ensures.made c.root-root.ensures.place c.cell.result c.cell.ensures c.in-Node.field-0 c.in-Node.count c.in-Node.first c.in-Node.is in
    let within = row_within h c.root-root.result c.len-size.ensures.made c.root-root.ensures.place c.cell.result c.cell.ensures c.in-Node.field-0 c.in-Node.count c.in-Node.first c.in-Node.is in
    let last = place_size (value_of h) c.in-Node.first c.in-Node.count (c.in-Node.first + (c.in-Node.count - 1)) (omega arith) (omega (arith, c.if-count-eq0.false)) in
    record {
      there = omega (arith, within, c.if-count-eq0.false);
      same = ap (λ b. b && is_ground (value_of h (c.in-Node.first + (c.in-Node.count - 1)))) c.if-not-are_ground_at.ensures
          ∙ sym (node_apart h c.root-root.result c.len-size.ensures.made c.root-root.ensures.place c.cell.result c.cell.ensures c.in-Node.field-0 c.in-Node.count c.in-Node.first c.in-Node.is (omega (arith, c.if-count-eq0.false)))
          ∙ ap is_ground c.root-root.ensures.value ∙ c.places.invariant.same;
      small = omega (arith, whole, last, ap size c.root-root.ensures.value, c.places.invariant.small);
    }
