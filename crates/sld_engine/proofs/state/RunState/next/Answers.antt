use Rattle.std.proofs.Common.{◌<◌, ◌≤◌, length, Some, refl, ap, arith}
use Rattle.machine_model.specs.State.{Over}
use Rattle.engine_state.specs.Stages.{phase_of}
use Rattle.sld_engine.proofs.RunLaws.{not_given, phase_there, ends, over_left}
use Rattle.sld_engine.proofs.state.RunState.next.Goals as goal

pub give-requires-clause-phase : goal.give-requires-clause-phase
give-requires-clause-phase c = (Over c.in-Over.ending, ap (phase_of c.args.self.now.engine) c.in-Over.is)

pub returns-then-self-len-clause-ended : goal.returns-then-self-len-clause-ended
returns-then-self-len-clause-ended c = λ e left.
    let r = c.args.self.now in
    let less : r.given < length r.told.items = omega (arith, c.if-self-len.true, c.len.ensures, r.told.ok.0) in
    absurd (not_given r.given r.told.items less (over_left r e left).0)

pub give-requires-then-self-len-2 : goal.give-requires-then-self-len-2
give-requires-then-self-len-2 c =
    let r = c.args.self.now in
    record { running = c.requires; phase = phase_there r.engine r.stage c.in_default.not-Stuck; some = omega (arith, c.if-self-len-2.true, c.len-in_default.ensures, r.told.ok.0) }

pub tell_next-requires : goal.tell_next-requires
tell_next-requires c =
    let r = c.args.self.now in
    record { running = c.requires; phase = phase_there r.engine r.stage c.in_default.not-Stuck; given = omega (arith, c.if-self-len-2.false, c.len-in_default.ensures, r.told.ok.0) }

pub returns-else-self-len-clause-told : goal.returns-else-self-len-clause-told
returns-else-self-len-clause-told c =
    let r = c.args.self.now in
    ends r r c.in-Over.ending c.in-Over.is (omega (arith, c.if-self-len.false, c.len.ensures, r.told.ok.0)) refl c.requires.counted
