use Rattle.std.proofs.Common.{◌<◌, ◌+◌, ◌-◌, ◌/◌, length, refl, sym, arith}
use Rattle.engine_state.proofs.MarkLaws.{found_here, lower_half, upper_half, halves_meet}
use Rattle.engine_state.proofs.marks.place_at.Goals as goal

pub returns-then-below-height : goal.returns-then-below-height
returns-then-below-height c =
    let middle = c.halves.low + (c.halves.high - c.halves.low) / 2 in
    let less : middle < length c.args.points.now = omega (arith, c.halves-test.true, c.halves.invariant.within) in
    found_here c.args.height c.args.points.now middle _ _ c.requires less refl (sym c.if-below-height.true)

pub halves-preserved-then-below-height-2 : goal.halves-preserved-then-below-height-2
halves-preserved-then-below-height-2 c =
    let middle = c.halves.low + (c.halves.high - c.halves.low) / 2 in
    let less : middle < length c.args.points.now = omega (arith, c.halves-test.true, c.halves.invariant.within) in
    record {
      ends = omega (arith, c.halves-test.true);
      within = c.halves.invariant.within;
      lower = lower_half c.args.height c.args.points.now middle _ _ c.requires less refl (middle + 1) refl c.if-below-height-2.true;
      upper = c.halves.invariant.upper;
    }

pub halves-preserved : goal.halves-preserved
halves-preserved c =
    let middle = c.halves.low + (c.halves.high - c.halves.low) / 2 in
    let less : middle < length c.args.points.now = omega (arith, c.halves-test.true, c.halves.invariant.within) in
    record {
      ends = omega (arith, c.halves-test.true);
      within = omega (arith, less);
      lower = c.halves.invariant.lower;
      upper = upper_half c.args.height c.args.points.now middle _ _ c.requires less refl c.if-below-height.false c.if-below-height-2.false;
    }

pub returns : goal.returns
returns c = halves_meet c.args.height c.args.points.now c.halves.low c.halves.high (omega (arith, c.halves-test.false, c.halves.invariant.ends)) c.halves.invariant.lower c.halves.invariant.upper
