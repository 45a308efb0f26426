use Rattle.std.proofs.Common.{◌≡◌, ◌≤◌, ◌+◌, ◌++◌, drop}
use Rattle.regtype_grammar.specs.TypeNames.{count_types, starts, first_names}
use Rattle.regtype_grammar.proofs.starts.first_names.Given as goal

abbrev pub invariant-loop-one : goal.invariant-loop-one
invariant-loop-one l =
    (l.firsts ++ starts l.next (drop l.one-index l.modules) ≡ first_names l.modules) × (l.next + count_types (drop l.one-index l.modules) ≡ count_types l.modules + 10) × (l.next ≤ 512)
