use Rattle.ciao_tokens.proofs.Closings.{nothing_read, read_one, part_shorter}
use Rattle.ciao_tokens.proofs.quoted.read_parts.Goals as goal

pub loop-part-init : goal.loop-part-init
loop-part-init c = (nothing_read _ _ _ c.new-chars.ensures, c.utf8.text)

pub loop-part-smaller : goal.loop-part-smaller
loop-part-smaller c = part_shorter _ _ _ _ c.requires.ascii c.requires.quote c.in-Some.ensures.0

pub loop-part-preserved : goal.loop-part-preserved
loop-part-preserved c = (read_one _ _ _ _ _ _ _ c.loop-part.invariant.0 c.in-Some.ensures.0 c.in_ok-add_meaning.ensures, c.in-Some.ensures.1)
