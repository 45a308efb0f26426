use Rattle.std.proofs.Common.{reverse}
use Rattle.ciao_reader.specs.Steps.{now}
use Rattle.ciao_reader.proofs.Followed.{Followed, weight}
use Rattle.ciao_reader.proofs.reading.read_words.Given as goal

abbrev pub invariant-loop-mode : goal.invariant-loop-mode
invariant-loop-mode l = Followed l.fn.ops l.fn.words (now l.mode l.left (reverse l.stack))

abbrev pub decreases-loop-mode : goal.decreases-loop-mode
decreases-loop-mode l = weight (now l.mode l.left (reverse l.stack))
