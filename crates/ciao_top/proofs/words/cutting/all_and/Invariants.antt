use Rattle.std.proofs.Common.{◌≡◌, map, drop}
use Rattle.std.specs.Prelude.{string_bytes}
use Rattle.ciao_top.specs.WordsFound.{all_and}
use Rattle.ciao_top.specs.WordsSeen.{few_seen}
use Rattle.ciao_top.proofs.words.cutting.all_and.Given as goal

abbrev pub invariant-loop-word : goal.invariant-loop-word
invariant-loop-word l = all_and (few_seen l.all) (map string_bytes (drop l.word-index l.words)) ≡ all_and (few_seen l.few) (map string_bytes l.words)
