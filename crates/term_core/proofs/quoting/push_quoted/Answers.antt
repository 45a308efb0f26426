use Rattle.term_core.proofs.QuotingLemmas.{behind_shorter}
use Rattle.term_core.proofs.quoting.push_quoted.Goals as goal

pub loop-first-smaller : goal.loop-first-smaller
loop-first-smaller c = behind_shorter _ _ _ c.in-Some.ensures.0
