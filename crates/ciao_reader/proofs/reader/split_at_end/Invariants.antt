use Rattle.std.proofs.Common.{◌≡◌, false, take}
use Rattle.std.specs.List.{list_any}
use Rattle.ciao_reader.specs.Sentences.{is_end}
use Rattle.ciao_reader.proofs.reader.split_at_end.Given as goal

abbrev pub invariant-loop-at : goal.invariant-loop-at
invariant-loop-at l = list_any is_end (take l.at l.tokens) ≡ false
