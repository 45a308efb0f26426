use Rattle.std.proofs.Common.{◌≡◌, ◌++◌, true, drop, map}
use Rattle.std.specs.List.{list_all}
use Rattle.regtype_grammar.specs.TypeNames.{are_few, numbered}
use Rattle.regtype_grammar.proofs.seen.all_numbered.Given as goal

abbrev pub invariant-loop-one : goal.invariant-loop-one
invariant-loop-one l =
    (l.seen ++ map (λ m. numbered l.firsts m.visible) (drop l.one-index l.modules) ≡ map (λ m. numbered l.firsts m.visible) l.modules) × (list_all (λ m. are_few l.firsts m.visible) (drop l.one-index l.modules) ≡ true)
