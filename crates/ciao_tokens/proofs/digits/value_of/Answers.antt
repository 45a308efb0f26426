use Rattle.ciao_tokens.proofs.DigitLaws.{too_large}
use Rattle.ciao_tokens.proofs.digits.value_of.Goals as goal

pub returns-in-None : goal.returns-in-None
returns-in-None c =
    too_large c.args.base c.loop-digit.value c.loop-digit.digit-index c.as_bytes-digit-items.result.now c.args.digits.now
    c.requires c.loop-digit-test.true c.loop-digit.invariant.0 c.loop-digit.invariant.2 c.in-None.ensures
