use Rattle.std.proofs.Common.{◌≡◌, drop}
use Rattle.std.specs.List.{list_all}
use Rattle.regtype_grammar.specs.TypeNames.{is_seen_in}
use Rattle.regtype_grammar.proofs.seen.all_seen.Given as goal

abbrev pub invariant-loop-one : goal.invariant-loop-one
invariant-loop-one l = list_all (is_seen_in l.modules) (drop l.one-index l.visible) ≡ list_all (is_seen_in l.modules) l.visible
