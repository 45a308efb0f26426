use Rattle.std.proofs.Common.{◌≡◌, ◌≤◌, length, take}
use Rattle.term_core.specs.declared.terms.Term as term
use Rattle.ciao_reader.specs.Parts.{leaf, codes_part}
use Rattle.ciao_reader.proofs.parts.text.Given as goal

abbrev pub invariant-loop-at : goal.invariant-loop-at
invariant-loop-at l = (codes_part (take l.at l.codes) l.list ≡ codes_part l.codes (leaf (term.Atom 0))) × (l.at ≤ length l.codes)

abbrev pub decreases-loop-at : goal.decreases-loop-at
decreases-loop-at l = l.at
