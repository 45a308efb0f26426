use Rattle.std.proofs.Common.{◌≡◌, suc, ◌+◌, ◌-◌, take, sym, subst, arith}
use Rattle.std.specs.Prelude.{option_copied}
use Rattle.term_core.specs.Sizes.{size, size_all}
use Rattle.term_core.proofs.Sizes.{size_pos}
use Rattle.prog_data.specs.Values.{bit_at}
use Rattle.prop_check.specs.Sets.{IsTold}
use Rattle.prop_check.specs.Chains.{sets_behind}
use Rattle.prop_check.proofs.SetLaws.{beyond}
use Rattle.prop_check.proofs.ToldLaws.{all_looked_at, part_size, one_more_told}
use Rattle.prop_check.proofs.narrowing.+narrowing.Goals as goal

pub narrowed-returns-then-left-eq0 : goal.narrowed-returns-then-left-eq0
narrowed-returns-then-left-eq0 t c =
    all_looked_at c.args.grammar.now (bit_at c.args.reach.now) c.args.term.now c.args.name c.args.parts.now c.args.left (sets_behind (option_copied c.args.behind)) (bit_at c.settle.new.names) c.requires c.if-left-eq0.true c.settle.ensures

pub narrowed-narrow-requires : goal.narrowed-narrow-requires
narrowed-narrow-requires t c =
    let parts = c.args.parts.now in
    let place = c.args.left - 1 in
    let part = c.index-parts-place.result in
    let next : suc place ≡ c.args.left = omega (arith, c.if-left-eq0.false) in
    let whole : size_all (take c.args.left parts) ≡ size_all (take place parts) + size part =
    part_size c.args.grammar.now (bit_at c.args.reach.now) c.args.term.now c.args.name parts c.args.left place (sets_behind (option_copied c.args.behind)) c.requires next part c.index-parts-place.is in
    (omega (arith, whole, c.decreases), c.requires.fits)

pub narrowed-narrowed-requires : goal.narrowed-narrowed-requires
narrowed-narrowed-requires t c =
    let g = c.args.grammar.now in
    let reach = bit_at c.args.reach.now in
    let parts = c.args.parts.now in
    let place = c.args.left - 1 in
    let part = c.index-parts-place.result in
    let behind = sets_behind (option_copied c.args.behind) in
    let next : suc place ≡ c.args.left = omega (arith, c.if-left-eq0.false) in
    let whole : size_all (take c.args.left parts) ≡ size_all (take place parts) + size part = part_size g reach c.args.term.now c.args.name parts c.args.left place behind c.requires next part c.index-parts-place.is in (
      omega (arith, whole, size_pos part, c.decreases),
      subst (IsTold g reach c.args.term.now c.args.name parts place) (sym c.link-known.ensures)
          (one_more_told g reach c.args.term.now c.args.name parts c.args.left place behind c.requires next part c.index-parts-place.is (bit_at c.gather_first.new.names) (bit_at c.narrow.new.names) c.gather_first.ensures.found c.narrow.ensures
          (λ m le. beyond c.narrow.new.names m c.narrow.array_long le)),
    )
