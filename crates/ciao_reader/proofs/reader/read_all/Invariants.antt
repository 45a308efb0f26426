use Rattle.std.proofs.Common.{length}
use Rattle.term_core.specs.Standard.{standard}
use Rattle.ciao_reader.specs.Sentences.{ReadsTo}
use Rattle.ciao_reader.proofs.reader.read_all.Given as goal

abbrev pub invariant-loop-left : goal.invariant-loop-left
invariant-loop-left l = ReadsTo l.fn.names l.left l.ops standard l.fn.tokens l.sentences

abbrev pub decreases-loop-left : goal.decreases-loop-left
decreases-loop-left l = length l.left
