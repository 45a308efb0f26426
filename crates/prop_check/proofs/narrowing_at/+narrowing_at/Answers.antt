use Rattle.std.proofs.Common.{◌≡◌, suc, ◌+◌, ◌-◌, ◌<◌, [], length, ◌&&◌, take, drop, refl, sym, ap, ◌∙◌, subst, arith, true≢false}
use Rattle.std.specs.Prelude.{option_copied}
use Rattle.term_core.specs.Sizes.{size, size_all}
use Rattle.term_core.proofs.Sizes.{size_pos}
use Rattle.prog_data.specs.Values.{bit_at}
use Rattle.prog_data.specs.Membership.{belongs}
use Rattle.term_heap.specs.Changes.{value_of}
use Rattle.prop_check.specs.Sets.{AreTold, IsTold, head_holds}
use Rattle.prop_check.specs.Chains.{sets_behind}
use Rattle.prop_check.specs.Places.{row_at, compound_at}
use Rattle.prop_check.proofs.SetLaws.{beyond, named, gathered_none, gathered_more, ended}
use Rattle.prop_check.proofs.ToldLaws.{all_looked_at, none_looked_at, part_size, one_more_told, settled}
use Rattle.prop_check.proofs.OneOfLaws.{asks_last, single_belongs, no_names}
use Rattle.prop_check.proofs.CellLaws.{take_all, at_row, row_length, no_parts, small_alike, small_up, small_down, last_there, others_there, sizes_apart, turn_up, turn_down, whole_up, is_compound_at, row_there, row_smaller}
use Rattle.prop_check.proofs.narrowing_at.+narrowing_at.Goals as goal

pub narrowed_at-returns-then-left-eq0 : goal.narrowed_at-returns-then-left-eq0
narrowed_at-returns-then-left-eq0 t c =
    let h = c.args.heap.now.changes in
    all_looked_at c.args.grammar.now (bit_at c.args.reach.now) (compound_at h c.args.name c.args.first c.args.count) c.args.name (row_at h c.args.first c.args.count) c.args.left (sets_behind (option_copied c.args.behind)) (bit_at c.settle.new.names) c.requires.told
    c.if-left-eq0.true c.settle.ensures

pub narrowed_at-narrow_at-requires : goal.narrowed_at-narrow_at-requires
narrowed_at-narrow_at-requires t c =
    let h = c.args.heap.now.changes in
    let place = c.args.left - 1 in
    let row = row_at h c.args.first c.args.count in
    let part = value_of h (c.args.first + place) in
    let next : suc place ≡ c.args.left = omega (arith, c.if-left-eq0.false) in
    let many : length row ≡ c.args.count = row_length (value_of h) c.args.first c.args.count in
    let lt : place < c.args.count = omega (arith, next, many, c.requires.told.within) in
    let whole : size_all (take c.args.left row) ≡ size_all (take place row) + size part =
    part_size c.args.grammar.now (bit_at c.args.reach.now) (compound_at h c.args.name c.args.first c.args.count) c.args.name row c.args.left place (sets_behind (option_copied c.args.behind)) c.requires.told next part
    (at_row (value_of h) c.args.first c.args.count place lt) in
    (omega (arith, whole, c.decreases), (c.requires.told.fits, omega (arith, lt, c.requires.within)))

pub narrowed_at-narrowed_at-requires : goal.narrowed_at-narrowed_at-requires
narrowed_at-narrowed_at-requires t c =
    let h = c.args.heap.now.changes in
    let g = c.args.grammar.now in
    let reach = bit_at c.args.reach.now in
    let place = c.args.left - 1 in
    let row = row_at h c.args.first c.args.count in
    let compound = compound_at h c.args.name c.args.first c.args.count in
    let behind = sets_behind (option_copied c.args.behind) in
    let part = value_of h (c.args.first + place) in
    let next : suc place ≡ c.args.left = omega (arith, c.if-left-eq0.false) in
    let many : length row ≡ c.args.count = row_length (value_of h) c.args.first c.args.count in
    let lt : place < c.args.count = omega (arith, next, many, c.requires.told.within) in
    let is = at_row (value_of h) c.args.first c.args.count place lt in
    let whole : size_all (take c.args.left row) ≡ size_all (take place row) + size part = part_size g reach compound c.args.name row c.args.left place behind c.requires.told next part is in (
      omega (arith, whole, size_pos part, c.decreases),
      (
        subst (IsTold g reach compound c.args.name row place) (sym c.link-known.ensures)
            (one_more_told g reach compound c.args.name row c.args.left place behind c.requires.told next part is (bit_at c.gather_first.new.names) (bit_at c.narrow_at.new.names) c.gather_first.ensures.found c.narrow_at.ensures
            (λ m le. beyond c.narrow_at.new.names m c.narrow_at.array_long le)),
        c.requires.within,
      ),
    )

pub ask_last-returns-then-left-eq0 : goal.ask_last-returns-then-left-eq0
ask_last-returns-then-left-eq0 t c =
    let h = c.args.heap.now.changes in
    let row = row_at h c.args.first c.args.count in
    let sets = sets_behind (option_copied c.args.behind) in
    asks_last c.args.grammar.now c.requires.told.fits (bit_at c.args.reach.now) c.requires.told.closed c.args.name row sets (bit_at c.gather.new.names)
    (subst (λ k. AreTold c.args.grammar.now (bit_at c.args.reach.now) c.args.name k (drop k row) sets) c.if-left-eq0.true c.requires.told.told) c.gather.ensures.found c.gather.ensures.only

pub ask_last-narrow_at-requires : goal.ask_last-narrow_at-requires
ask_last-narrow_at-requires t c =
    let h = c.args.heap.now.changes in
    let place = c.args.left - 1 in
    let row = row_at h c.args.first c.args.count in
    let part = value_of h (c.args.first + place) in
    let next : suc place ≡ c.args.left = omega (arith, c.if-left-eq0.false) in
    let many : length row ≡ c.args.count = row_length (value_of h) c.args.first c.args.count in
    let lt : place < c.args.count = omega (arith, next, many, c.requires.told.within) in
    let whole : size_all (take c.args.left row) ≡ size_all (take place row) + size part =
    part_size c.args.grammar.now (bit_at c.args.reach.now) (compound_at h c.args.name c.args.first c.args.count) c.args.name row c.args.left place (sets_behind (option_copied c.args.behind)) c.requires.told next part
    (at_row (value_of h) c.args.first c.args.count place lt) in
    (omega (arith, whole, c.decreases), (c.requires.told.fits, omega (arith, lt, c.requires.within)))

pub ask_last-ask_last-requires : goal.ask_last-ask_last-requires
ask_last-ask_last-requires t c =
    let h = c.args.heap.now.changes in
    let g = c.args.grammar.now in
    let reach = bit_at c.args.reach.now in
    let place = c.args.left - 1 in
    let row = row_at h c.args.first c.args.count in
    let compound = compound_at h c.args.name c.args.first c.args.count in
    let behind = sets_behind (option_copied c.args.behind) in
    let part = value_of h (c.args.first + place) in
    let next : suc place ≡ c.args.left = omega (arith, c.if-left-eq0.false) in
    let many : length row ≡ c.args.count = row_length (value_of h) c.args.first c.args.count in
    let lt : place < c.args.count = omega (arith, next, many, c.requires.told.within) in
    let is = at_row (value_of h) c.args.first c.args.count place lt in
    let whole : size_all (take c.args.left row) ≡ size_all (take place row) + size part = part_size g reach compound c.args.name row c.args.left place behind c.requires.told next part is in (
      omega (arith, whole, size_pos part, c.decreases),
      (
        subst (IsTold g reach compound c.args.name row place) (sym c.link-known.ensures)
            (one_more_told g reach compound c.args.name row c.args.left place behind c.requires.told next part is (bit_at c.gather_first.new.names) (bit_at c.narrow_at.new.names) c.gather_first.ensures.found c.narrow_at.ensures
            (λ m le. beyond c.narrow_at.new.names m c.narrow_at.array_long le)),
        c.requires.within,
      ),
    )

pub one_belongs-returns-then-is_same-clause-none : goal.one_belongs-returns-then-is_same-clause-none
one_belongs-returns-then-is_same-clause-none t c = λ s.
    no_names c.args.grammar.now c.places.asked (value_of c.args.heap.now.changes c.places.here) (c.is_same.ensures.0 c.if-is_same.true) (c.places.invariant.down s)

pub one_belongs-returns-in-None-clause-some : goal.one_belongs-returns-in-None-clause-some
one_belongs-returns-in-None-clause-some t c = λ e.
    c.places.invariant.up
    (small_up c.args.heap.now.changes (value_of c.args.heap.now.changes c.places.here) c.look-cell.result c.look-cell.ensures c.in-None.ensures c.args.grammar.now c.requires.fits (bit_at c.places.asked) (bit_at c.reach-closed.result)
    c.reach-closed.ensures.closed c.reach-closed.ensures.asked c.reach-closed.ensures.led c.cell_head.result c.cell_head.ensures (c.holds_alone.ensures.some e))

pub one_belongs-returns-in-None-clause-none : goal.one_belongs-returns-in-None-clause-none
one_belongs-returns-in-None-clause-none t c = λ s.
    c.holds_alone.ensures.none
    (small_down c.args.heap.now.changes (value_of c.args.heap.now.changes c.places.here) c.look-cell.result c.look-cell.ensures c.in-None.ensures c.args.grammar.now c.requires.fits (bit_at c.places.asked) (bit_at c.reach-closed.result)
    c.reach-closed.ensures.closed c.reach-closed.ensures.asked c.reach-closed.ensures.led c.cell_head.result c.cell_head.ensures (c.places.invariant.down s))

pub one_belongs-returns-then-holds_of_each-clause-some : goal.one_belongs-returns-then-holds_of_each-clause-some
one_belongs-returns-then-holds_of_each-clause-some t c = λ e.
    c.places.invariant.up
    (whole_up c.args.heap.now.changes (value_of c.args.heap.now.changes c.places.here) c.look-cell.result c.look-cell.ensures c.in-Some.parts c.in-Some.ensures c.args.grammar.now (bit_at c.places.asked) (bit_at c.reach-closed.result)
    c.reach-closed.ensures.led (c.holds_of_each.ensures.some c.if-holds_of_each.true))

pub one_belongs-ask_last-requires : goal.one_belongs-ask_last-requires
one_belongs-ask_last-requires t c =
    let h = c.args.heap.now.changes in
    let parts = c.in-Some.parts in
    let row = row_at h parts.first parts.others in
    let many : length row ≡ parts.others = row_length (value_of h) parts.first parts.others in
    let all : size_all (take parts.others row) ≡ size_all row = ap size_all (take_all row parts.others (sym many)) in
    let apart = sizes_apart h (value_of h c.places.here) c.look-cell.result c.look-cell.ensures parts c.in-Some.ensures in
    let within = others_there h (value_of h c.places.here) c.look-cell.result c.look-cell.ensures parts c.in-Some.ensures in (
      omega (arith, all, apart, size_pos (value_of h (parts.first + parts.others)), c.places.invariant.small, c.decreases),
      (none_looked_at c.args.grammar.now (bit_at c.reach-closed.result) (compound_at h parts.name parts.first parts.others) parts.name row parts.others c.requires.fits c.reach-closed.ensures.closed refl (sym many), within),
    )

pub one_belongs-overflow_add-here : goal.one_belongs-overflow_add-here
one_belongs-overflow_add-here t c =
    let h = c.args.heap.now.changes in
    let there = last_there h (value_of h c.places.here) c.look-cell.result c.look-cell.ensures c.in-Some.parts c.in-Some.ensures in
    omega (arith, there, c.len-size.ensures.len)

pub one_belongs-places-smaller : goal.one_belongs-places-smaller
one_belongs-places-smaller t c =
    let h = c.args.heap.now.changes in
    let apart = sizes_apart h (value_of h c.places.here) c.look-cell.result c.look-cell.ensures c.in-Some.parts c.in-Some.ensures in
    omega (arith, apart)

pub one_belongs-places-preserved : goal.one_belongs-places-preserved
one_belongs-places-preserved t c =
    let h = c.args.heap.now.changes in
    let parts = c.in-Some.parts in
    let apart = sizes_apart h (value_of h c.places.here) c.look-cell.result c.look-cell.ensures parts c.in-Some.ensures in
    record {
      there = last_there h (value_of h c.places.here) c.look-cell.result c.look-cell.ensures parts c.in-Some.ensures;
      down = λ s.
          turn_down h (value_of h c.places.here) c.look-cell.result c.look-cell.ensures parts c.in-Some.ensures c.args.grammar.now (bit_at c.places.asked) (bit_at c.reach-closed.result) (bit_at c.ask_last.new.names) c.reach-closed.ensures.asked
          c.reach-closed.ensures.led c.ask_last.ensures (λ r. true≢false (sym (c.holds_of_each.ensures.none r) ∙ c.if-holds_of_each.false)) (c.places.invariant.down s);
      up = λ s.
          c.places.invariant.up
          (turn_up h (value_of h c.places.here) c.look-cell.result c.look-cell.ensures parts c.in-Some.ensures c.args.grammar.now (bit_at c.places.asked) (bit_at c.reach-closed.result) (bit_at c.ask_last.new.names) c.reach-closed.ensures.asked
          c.reach-closed.ensures.led c.ask_last.ensures s);
      small = omega (arith, apart, c.places.invariant.small);
    }

pub narrow_one-one_belongs-requires : goal.narrow_one-one_belongs-requires
narrow_one-one_belongs-requires t c = (omega (arith, c.decreases), (c.requires.fits, c.requires.within))

pub narrow_at-narrow_one-requires : goal.narrow_at-narrow_one-requires
narrow_at-narrow_one-requires t c = (omega (arith, c.decreases), (c.requires.fits, (c.requires.within, c.is_single.ensures c.if-is_single.true)))

pub narrow_at-narrow_all-requires : goal.narrow_at-narrow_all-requires
narrow_at-narrow_all-requires t c = (omega (arith, c.decreases), (c.requires.fits, c.requires.within))

pub narrow_all-narrowed_at-requires : goal.narrow_all-narrowed_at-requires
narrow_all-narrowed_at-requires t c =
    let h = c.args.heap.now.changes in
    let name = c.in-Node.name in
    let count = c.in-Node.count in
    let first = c.in-Node.first in
    let row = row_at h first count in
    let many : length row ≡ count = row_length (value_of h) first count in
    let all : size_all (take count row) ≡ size_all row = ap size_all (take_all row count (sym many)) in
    let smaller = row_smaller h (value_of h c.args.place) c.look-cell.result c.look-cell.ensures name count first c.in-Node.is in (
      omega (arith, all, smaller, c.decreases),
      (
        none_looked_at c.args.grammar.now (bit_at c.reach-closed.result) (compound_at h name first count) name row count c.requires.fits c.reach-closed.ensures.closed refl (sym many),
        row_there h (value_of h c.args.place) c.look-cell.result c.look-cell.ensures name count first c.in-Node.is,
      ),
    )

pub narrow_all-returns-in-Node : goal.narrow_all-returns-in-Node
narrow_all-returns-in-Node t c = λ n e.
    let h = c.args.heap.now.changes in
    let compound = compound_at h c.in-Node.name c.in-Node.first c.in-Node.count in
    c.narrowed_at.ensures n ∙ ap (λ b. b && belongs c.args.grammar.now compound n) (c.reach-closed.ensures.asked n e)
    ∙ ap (λ t. belongs c.args.grammar.now t n) (sym (is_compound_at h (value_of h c.args.place) c.look-cell.result c.look-cell.ensures c.in-Node.name c.in-Node.count c.in-Node.first c.in-Node.is))

pub narrow_all-returns-in-Free : goal.narrow_all-returns-in-Free
narrow_all-returns-in-Free t c = λ n e.
    let h = c.args.heap.now.changes in
    let g = c.args.grammar.now in
    let term = value_of h c.args.place in
    let closed = bit_at c.reach-closed.result in
    settled g c.requires.fits closed c.reach-closed.ensures.closed (bit_at c.settle.new.names) (head_holds [] c.cell_head.result) term
    (λ m r q i. ap (λ d. head_holds [] d r) c.cell_head.ensures ∙ small_alike h term c.look-cell.result c.look-cell.ensures (no_parts c.look-cell.result c.in-Free.is) g c.requires.fits closed m r q i) c.settle.ensures n
    ∙ ap (λ b. b && belongs g term n) (c.reach-closed.ensures.asked n e)

pub narrowed_at-overflow_add-first : goal.narrowed_at-overflow_add-first
narrowed_at-overflow_add-first t c =
    let h = c.args.heap.now.changes in
    let many : length (row_at h c.args.first c.args.count) ≡ c.args.count = row_length (value_of h) c.args.first c.args.count in
    omega (arith, many, c.requires.told.within, c.requires.within, c.len-size.ensures.len, c.if-left-eq0.false)

pub ask_last-overflow_add-first : goal.ask_last-overflow_add-first
ask_last-overflow_add-first t c =
    let h = c.args.heap.now.changes in
    let many : length (row_at h c.args.first c.args.count) ≡ c.args.count = row_length (value_of h) c.args.first c.args.count in
    omega (arith, many, c.requires.told.within, c.requires.within, c.len-size.ensures.len, c.if-left-eq0.false)

pub is_kept-one_belongs-requires : goal.is_kept-one_belongs-requires
is_kept-one_belongs-requires t c = (omega (arith, c.decreases), (c.requires.fits, c.requires.within))

pub is_kept-returns : goal.is_kept-returns
is_kept-returns t c =
    let belong = belongs c.args.grammar.now (value_of c.args.heap.now.changes c.args.place) c.args.name in
    single_belongs c.args.grammar.now c.requires.fits (value_of c.args.heap.now.changes c.args.place) c.args.name c.put.new.names c.one_belongs.result c.put.ensures c.one_belongs.ensures.some c.one_belongs.ensures.none
    ∙ ap (λ b. b && belong) (sym c.if-not-has.false ∙ c.has.ensures)

pub narrow_each-is_kept-wanted-requires : goal.narrow_each-is_kept-wanted-requires
narrow_each-is_kept-wanted-requires t c = (omega (arith, c.decreases), (c.requires.fits, c.requires.within))

pub narrow_at-narrow_each-requires : goal.narrow_at-narrow_each-requires
narrow_at-narrow_each-requires t c = (omega (arith, c.decreases), (c.requires.fits, c.requires.within))

pub narrow_each-loop-name-init : goal.narrow_each-loop-name-init
narrow_each-loop-name-init t c = gathered_none _

pub narrow_each-loop-name-preserved : goal.narrow_each-loop-name-preserved
narrow_each-loop-name-preserved t c =
    gathered_more (λ n. bit_at c.args.names.now n && belongs c.args.grammar.now (value_of c.args.heap.now.changes c.args.place) n) c.loop-name.name c.is_kept-wanted.result c.loop-name.kept c.put_where.new.names c.loop-name.invariant c.is_kept-wanted.ensures
    c.loop-name-test.true c.put_where.ensures

pub narrow_each-returns : goal.narrow_each-returns
narrow_each-returns t c = λ n e.
    let belong = belongs c.args.grammar.now (value_of c.args.heap.now.changes c.args.place) in
    let lt = named c.args.names.now n c.told-names e in
    ended (λ n. bit_at c.args.names.now n && belong n) c.loop-name.name c.loop-name.kept n (omega (arith, lt, c.loop-name-test.false)) c.loop-name.invariant ∙ ap (λ b. b && belong n) e
