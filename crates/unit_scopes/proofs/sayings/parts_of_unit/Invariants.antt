use Rattle.std.proofs.Common.{◌≡◌, drop}
use Rattle.unit_scopes.specs.Sayings.{parts_behind, no_parts}
use Rattle.unit_scopes.proofs.sayings.parts_of_unit.Given as goal

abbrev pub invariant-loop-sentence : goal.invariant-loop-sentence
invariant-loop-sentence l =
    parts_behind l.fn.unit.dcg l.fn.unit.fsyntax l.parts (drop l.sentence-index l.sentence-items)
    ≡ parts_behind l.fn.unit.dcg l.fn.unit.fsyntax no_parts l.sentence-items
