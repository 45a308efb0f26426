use Rattle.std.proofs.Common.{◌≡◌, false, drop}
use Rattle.ciao_reader.specs.Sentences.{large_line}
use Rattle.ciao_reader.proofs.reader.large_line.Given as goal

abbrev pub invariant-loop-word : goal.invariant-loop-word
invariant-loop-word l = large_line l.signed (drop l.word-index l.words) l.left ≡ large_line false l.words l.fn.tokens
