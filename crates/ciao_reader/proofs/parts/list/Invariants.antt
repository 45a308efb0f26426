use Rattle.std.proofs.Common.{◌≡◌, length}
use Rattle.ciao_reader.specs.Parts.{list_part}
use Rattle.ciao_reader.proofs.parts.list.Given as goal

abbrev pub invariant-loop-part : goal.invariant-loop-part
invariant-loop-part l = list_part l.left l.list ≡ list_part l.fn.parts l.fn.tail

abbrev pub decreases-loop-part : goal.decreases-loop-part
decreases-loop-part l = length l.left
