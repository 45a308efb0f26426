use Rattle.std.proofs.Common.{◌≡◌, ◌++◌, [], drop}
use Rattle.unit_scopes.specs.Imports.{types_behind}
use Rattle.unit_scopes.specs.Sources.{type_names_behind}
use Rattle.unit_scopes.proofs.sources.own_types.Given as goal

abbrev pub invariant-loop-position : goal.invariant-loop-position
invariant-loop-position l =
    (l.types.types ++ types_behind l.at l.position l.types.names.keys (drop l.position l.declared) ≡ types_behind l.at 0 [] l.declared)
    × (type_names_behind l.types.names.keys (drop l.position l.declared) ≡ type_names_behind [] l.declared)
