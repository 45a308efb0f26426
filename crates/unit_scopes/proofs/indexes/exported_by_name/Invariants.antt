use Rattle.std.proofs.Common.{◌≡◌, [], drop}
use Rattle.unit_scopes.specs.Sources.{named_behind}
use Rattle.unit_scopes.proofs.indexes.exported_by_name.Given as goal

abbrev pub invariant-loop-export : goal.invariant-loop-export
invariant-loop-export l = named_behind l.index.keys (drop l.export-index l.exports) ≡ named_behind [] l.exports
