use Rattle.std.proofs.Common.{◌≡◌, [], drop}
use Rattle.unit_scopes.specs.Sources.{imports_behind, let_in_seen}
use Rattle.unit_scopes.proofs.indexes.let_in.Given as goal

abbrev pub invariant-loop-import : goal.invariant-loop-import
invariant-loop-import l = imports_behind (let_in_seen l.let_in) (drop l.import-index l.imports) ≡ imports_behind (record { whole = []; wanted = [] }) l.imports
