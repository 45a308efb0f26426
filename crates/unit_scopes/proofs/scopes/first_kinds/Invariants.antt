use Rattle.std.proofs.Common.{◌≡◌, ◌++◌, drop}
use Rattle.regtype_grammar.specs.TypeNames.{starts, first_names}
use Rattle.unit_scopes.proofs.scopes.first_kinds.Given as goal

abbrev pub invariant-loop-one : goal.invariant-loop-one
invariant-loop-one l = l.firsts ++ starts l.next (drop l.one-index l.modules) ≡ first_names l.modules
