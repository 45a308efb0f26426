use Rattle.std.proofs.Common.{length, map, ap, sym, ◌∙◌, ◌<◌, arith}
use Rattle.std.proofs.lemmas.List.{length-set, length-map}
use Rattle.std.specs.Prelude.{slice_set}
use Rattle.prog_data.specs.Values.{seen}
use Rattle.fixpoint_analyser.proofs.RowLaws.{joined_turn, joined_end}
use Rattle.fixpoint_analyser.proofs.rows.join_each.Goals as goal

pub loop-index-preserved : goal.loop-index-preserved
loop-index-preserved c =
    let k = c.loop-index.index in
    let x = c.join-joined.result in
    let others = c.args.others.now in
    let here = c.as_slice.result.now in
    let less : k < length others = c.loop-index-test.true in
    let within : k < length here = omega (arith, less, c.loop-index.invariant.0, ap length c.as_slice.ensures) in
    let lt : k < length (map seen c.args.values.now) = omega (arith, less, c.requires, length-map c.args.values.now seen) in (
      c.loop-index.invariant.0 ∙ sym (ap length c.set.ensures ∙ length-set c.loop-index.values k x),
      ap (map seen) c.set.ensures ∙ ap (λ vs. map seen (slice_set vs k x)) (sym c.as_slice.ensures)
          ∙ joined_turn k (map seen c.args.values.now) others here x _ _ lt less within (ap (map seen) c.as_slice.ensures ∙ c.loop-index.invariant.1) c.join-joined.ensures.value,
    )

pub returns : goal.returns
returns c = joined_end c.loop-index.index c.args.values.now c.loop-index.values c.args.others.now c.loop-index-test.false c.requires c.loop-index.invariant.1
