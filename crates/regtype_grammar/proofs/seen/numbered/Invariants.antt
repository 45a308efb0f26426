use Rattle.std.proofs.Common.{◌≡◌, ◌++◌, true, drop}
use Rattle.regtype_grammar.specs.TypeNames.{are_few, numbered}
use Rattle.regtype_grammar.proofs.seen.numbered.Given as goal

abbrev pub invariant-loop-one : goal.invariant-loop-one
invariant-loop-one l =
    (l.seen ++ numbered l.firsts (drop l.one-index l.visible) ≡ numbered l.firsts l.visible) × (are_few l.firsts (drop l.one-index l.visible) ≡ true)
