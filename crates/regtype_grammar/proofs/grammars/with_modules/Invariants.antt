use Rattle.std.proofs.Common.{◌≡◌, ◌≤◌, ◌+◌, true, drop, length}
use Rattle.std.specs.List.{list_all}
use Rattle.regtype_grammar.specs.TypeNames.{are_few}
use Rattle.regtype_grammar.specs.Grammars.{with_modules}
use Rattle.regtype_grammar.proofs.grammars.with_modules.Given as goal

abbrev pub invariant-loop-one : goal.invariant-loop-one
invariant-loop-one l =
    (with_modules l.first l.firsts l.making (drop l.one-index l.modules) ≡ with_modules l.first l.firsts l.fn.start l.modules) × (length l.making.further + l.first ≤ 512)
    × (list_all (λ m. are_few l.firsts m.visible) (drop l.one-index l.modules) ≡ true)
