use Rattle.std.proofs.Common.{[], None, refl, subst, arith}
use Rattle.sld_engine.specs.Going.{HasGone, HasCome}
use Rattle.sld_engine.proofs.GoingLaws.{come_none, come_further, fewer_after}
use Rattle.sld_engine.proofs.turning.go_on.Goals as goal

pub turns-init : goal.turns-init
turns-init c = record { none = c.requires.none; come = λ p phase. come_none c.args.reading c.args.bound c.args.engine.now c.args.stage p [] refl phase c.requires.whole }

pub take_turn-requires-clause-whole : goal.take_turn-requires-clause-whole
take_turn-requires-clause-whole c = (c.turns.invariant.come c.requires.phase.0 c.requires.phase.1).whole

pub take_turn-requires-clause-none : goal.take_turn-requires-clause-none
take_turn-requires-clause-none c = c.turns.invariant.none

pub returns-then-has_told-clause-come : goal.returns-then-has_told-clause-come
returns-then-has_told-clause-come c = λ p phase.
    let come = c.turns.invariant.come p phase in
    let turn = c.in_ok-turn.turn in
    come_further c.args.reading c.args.bound c.args.engine.now.program.now p c.turns.engine c.take_turn.new.engine c.turns.stage turn.stage [] c.turns.tests turn.tests c.saturating_add.result turn.event c.take_turn.new.told.items refl come
    (c.in_ok-turn.ensures come.now come.is) (omega (arith, c.saturating_add.ensures))

pub returns-then-has_told-clause-some : goal.returns-then-has_told-clause-some
returns-then-has_told-clause-some c = c.has_told.ensures.some c.if-has_told.true

pub turns-preserved : goal.turns-preserved
turns-preserved c =
    let quiet = c.has_told.ensures.none c.if-has_told.false in
    let turn = c.in_ok-turn.turn in
    record {
      none = quiet.1;
      come = λ p phase.
          let come = c.turns.invariant.come p phase in
          let further = come_further c.args.reading c.args.bound c.args.engine.now.program.now p c.turns.engine c.take_turn.new.engine c.turns.stage turn.stage [] c.turns.tests turn.tests c.saturating_add.result turn.event c.take_turn.new.told.items refl come
          (c.in_ok-turn.ensures come.now come.is) (omega (arith, c.saturating_add.ensures)) in
          subst (λ e. HasCome c.args.reading c.args.bound c.args.engine.now.program.now p e [] c.saturating_add.result c.take_turn.new.engine turn.stage) quiet.0
          (subst (λ ts. HasCome c.args.reading c.args.bound c.args.engine.now.program.now p turn.event ts c.saturating_add.result c.take_turn.new.engine turn.stage) quiet.1 further);
    }

pub turns-smaller : goal.turns-smaller
turns-smaller c =
    let quiet = c.has_told.ensures.none c.if-has_told.false in
    let turn = c.in_ok-turn.turn in
    let come = c.turns.invariant.come c.requires.phase.0 c.requires.phase.1 in
    fewer_after c.args.reading c.args.bound c.turns.engine c.take_turn.new.engine c.turns.stage turn.stage come.now c.take_turn.new.told.items turn.tests come.is
    (subst (λ e. HasGone c.args.reading c.args.bound c.turns.engine.program.now come.now e c.take_turn.new.told.items turn.tests c.take_turn.new.engine turn.stage) quiet.0 (c.in_ok-turn.ensures come.now come.is))
