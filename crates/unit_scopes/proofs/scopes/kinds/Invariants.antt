use Rattle.std.proofs.Common.{◌≡◌, ◌++◌, drop}
use Rattle.regtype_grammar.specs.TypeNames.{numbered}
use Rattle.unit_scopes.proofs.scopes.kinds.Given as goal

abbrev pub invariant-loop-one : goal.invariant-loop-one
invariant-loop-one l = l.seen ++ numbered l.firsts (drop l.one-index l.visible) ≡ numbered l.firsts l.visible
