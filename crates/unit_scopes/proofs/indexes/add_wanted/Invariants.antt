use Rattle.std.proofs.Common.{◌≡◌, drop}
use Rattle.unit_scopes.specs.Sources.{wanted_behind}
use Rattle.unit_scopes.proofs.indexes.add_wanted.Given as goal

abbrev pub invariant-loop-export : goal.invariant-loop-export
invariant-loop-export l = wanted_behind l.wanted.keys l.unit (drop l.export-index l.only) ≡ wanted_behind l.fn.wanted.keys l.unit l.only
