use Rattle.std.proofs.Common.{◌≡◌, ◌++◌, drop}
use Rattle.regtype_grammar.specs.TypeNames.{unnumbered}
use Rattle.regtype_grammar.proofs.seen.unnumbered.Given as goal

abbrev pub invariant-loop-one : goal.invariant-loop-one
invariant-loop-one l = l.seen ++ unnumbered (drop l.one-index l.visible) ≡ unnumbered l.visible
