use Rattle.prog_data.specs.Values.{bit_at}
use Rattle.prop_check.proofs.SetLaws.{fewer_absent}
use Rattle.prop_check.proofs.GatherLaws.{same_closed}
use Rattle.prop_check.proofs.OneOfLaws.{led_more}
use Rattle.prop_check.proofs.gathering.reach.Goals as goal

pub rounds-init : goal.rounds-init
rounds-init c = record { asked = λ n e. e; led = λ t n e b. (n, e, b) }

pub rounds-preserved : goal.rounds-preserved
rounds-preserved c = record {
  asked = λ n e. c.gather_first.ensures.kept n (c.rounds.invariant.asked n e);
  led = led_more c.args.grammar.now (bit_at c.args.asked.now) (bit_at c.rounds.names) (bit_at c.gather_first.new.names) c.rounds.invariant.led c.gather_first.ensures.only;
}

pub rounds-smaller : goal.rounds-smaller
rounds-smaller c =
    let more = c.has_more.ensures.some c.if-not-has_more.false in
    fewer_absent (bit_at c.rounds.names) (bit_at c.gather_first.new.names) c.gather_first.ensures.kept more.0 more.2 more.3 512 more.1

pub returns-then-not-has_more-clause-closed : goal.returns-then-not-has_more-clause-closed
returns-then-not-has_more-clause-closed c = same_closed c.args.grammar.now (bit_at c.rounds.names) (bit_at c.gather_first.new.names) (c.has_more.ensures.none c.if-not-has_more.true) c.gather_first.ensures.found
