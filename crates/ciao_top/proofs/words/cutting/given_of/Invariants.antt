use Rattle.std.proofs.Common.{◌≡◌, map, drop}
use Rattle.ciao_top.specs.WordsCut.{given_of}
use Rattle.ciao_top.specs.WordsSeen.{option_seen, use_seen}
use Rattle.ciao_top.proofs.words.cutting.given_of.Given as goal

abbrev pub invariant-loop-row : goal.invariant-loop-row
invariant-loop-row l = given_of (map option_seen (drop l.row-index l.rows)) l.word (use_seen l.other) ≡ given_of (map option_seen l.rows) l.word (use_seen l.other)
