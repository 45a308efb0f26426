use Rattle.std.proofs.Common.{◌≡◌, drop}
use Rattle.std.specs.List.{list_all}
use Rattle.regtype_grammar.specs.TypeNames.{is_seen_in, are_seen}
use Rattle.regtype_grammar.proofs.seen.are_seen.Given as goal

abbrev pub invariant-loop-one : goal.invariant-loop-one
invariant-loop-one l = list_all (λ m. list_all (is_seen_in l.modules) m.visible) (drop l.one-index l.modules) ≡ are_seen l.modules
