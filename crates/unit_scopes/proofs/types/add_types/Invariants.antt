use Rattle.std.proofs.Common.{◌≡◌, ◌++◌, drop, map}
use Rattle.unit_scopes.specs.Held.{type_held}
use Rattle.unit_scopes.proofs.types.add_types.Given as goal

abbrev pub invariant-loop-declared : goal.invariant-loop-declared
invariant-loop-declared l = l.types ++ map (type_held l.source) (drop l.declared-index l.declared-items) ≡ l.fn.types ++ map (type_held l.source) l.declared-items
